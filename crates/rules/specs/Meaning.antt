-- What a rule means, and the laws that it keeps.
use Rattle.std.specs.Prelude.{◌≡◌, ℕ, ◌+◌, ◌<◌, ◌≤◌, Bool, true, false, is_some, Some, None, Option, ◌==◌, ◌≢◌, nat_lt}
use Rattle.letters.specs.Letters.{letter, end, insertable}

-- the most letters that a cycle can have, end left out
abbrev pub most_span : ℕ
most_span = 4095

-- the most places that a rule has
abbrev pub most_places : ℕ
most_places = 1048576

pub record Meaning : Type 0 where
  -- how many places there are, numbered from 0
  pub count : ℕ
  -- the place where the first cycle begins
  pub start : ℕ
  -- the largest owed of the whole rule
  pub most : ℕ
  -- a place that the rule means
  pub live : ℕ → Bool
  -- the place that follows a place after a letter, or none where the letter is not admitted
  pub next : ℕ → ℕ → Option ℕ
  -- the number of letters that a close still has to insert before the end is admitted
  pub owed : ℕ → ℕ
  -- the most letters that can still come in the cycle, end left out
  pub span : ℕ → ℕ
  -- the letter that a close inserts next
  pub lead : ℕ → Option ℕ

-- a place that is not live
pub record Dead (m : Meaning) (p : ℕ) : Type 0 where
  pub no_next : (a : ℕ) → m.next p a ≡ None
  pub no_owed : m.owed p ≡ 0
  pub no_span : m.span p ≡ 0
  pub no_lead : m.lead p ≡ None

-- what it is to be a rule's meaning
pub record Meant (m : Meaning) : Type 0 where
  pub starts : m.live m.start ≡ true
  pub within : (p : ℕ) → m.live p ≡ true → p < m.count
  pub dead : (p : ℕ) → m.live p ≡ false → Dead m p
  -- a lead is given where owed is above 0, and nowhere else
  pub led : (p : ℕ) → is_some (m.lead p) ≡ nat_lt 0 (m.owed p)
  -- only letters are admitted
  pub lettered : (p a : ℕ) → is_some (letter a) ≡ false → m.next p a ≡ None

-- the lead is the insertable letter a, admitted, and leads to q, where owed is one smaller
pub record Leads (m : Meaning) (p a q : ℕ) : Type 0 where
  pub is_lead : m.lead p ≡ Some a
  pub can : insertable a ≡ true
  pub goes : m.next p a ≡ Some q
  pub less : m.owed q + 1 ≡ m.owed p

-- the laws, of live places
pub record Laws (m : Meaning) : Type 0 where
  -- a following place is live
  pub stays : (p a q : ℕ) → m.live p ≡ true → m.next p a ≡ Some q → m.live q ≡ true
  -- owed is 0 exactly where end is admitted, and never above most
  pub ends : (p : ℕ) → m.live p ≡ true → is_some (m.next p end) ≡ (m.owed p == 0)
  pub at_most : (p : ℕ) → m.live p ≡ true → m.owed p ≤ m.most
  -- where owed is above 0, the lead brings the end one letter nearer
  pub leads : (p : ℕ) → m.live p ≡ true → 0 < m.owed p → (a : ℕ) × (q : ℕ) × Leads m p a q
  -- an insertable letter never lowers owed by more than one
  pub slow : (p a q : ℕ) → m.live p ≡ true → insertable a ≡ true → m.next p a ≡ Some q → m.owed p ≤ m.owed q + 1
  -- every letter but end leads to a smaller span, and no span is large
  pub shorter : (p a q : ℕ) → m.live p ≡ true → (a ≢ end) → m.next p a ≡ Some q → m.span q < m.span p
  pub bounded : (p : ℕ) → m.live p ≡ true → m.span p ≤ most_span
  -- the places are few
  pub few : m.count ≤ most_places

pub record Lawful (m : Meaning) : Type 0 where
  pub meant : Meant m
  pub laws : Laws m
