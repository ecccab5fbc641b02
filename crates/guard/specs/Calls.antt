-- What the calls of a guard come to, over the meaning of its rule.
use Rattle.std.specs.Prelude.{◌≡◌, ℕ, zero, suc, ◌+◌, cond, not, List, [], ◌∷◌, ◌++◌, length, drop, is_some, Some, None, Ok, Err, Option, Result, ◌==◌, nat_le, nat_lt}
use Rattle.std.specs.Option.{unwrap_or}
use Rattle.letters.specs.Letters.{letter, end}
use Rattle.rules.specs.Meaning.{Meaning}
use Rattle.rules.specs.Lists.{Led}
use Rattle.guard.specs.declared.calls.Resting.{Resting}
use Rattle.guard.specs.declared.calls.Running.{Running}
use Rattle.guard.specs.declared.calls.Answer.{Answer}
use Rattle.guard.specs.declared.calls.Answer.TheVariants.{Passed, Dropped}
use Rattle.guard.specs.declared.refusal.Refusal.{Refusal}
use Rattle.guard.specs.declared.refusal.Refusal.TheVariants.{NotLive, NoLetter, EndOffered, Full, Short}

abbrev pub most_acts : ℕ
most_acts = 4096

abbrev pub resting : ℕ → Resting
resting p = record { place = p }

abbrev pub running : ℕ → ℕ → Running
running p n = record { place = p; acts = n }

-- letters written fill the first places of an output, the others stay
abbrev pub over : List ℕ → List ℕ → List ℕ
over ws out = ws ++ drop (length ws) out

-- what an act comes to: a refusal, a letter dropped, or a letter passed on to the following place
pub data Acting : Type 0 where
  refused : Refusal → Acting
  dropped : Acting
  passed : ℕ → Acting

abbrev pub by_following : Option ℕ → ℕ → Acting
by_following None room = dropped
by_following (Some q) room = cond (nat_lt 0 room) (passed q) (refused Short)

-- an act with a letter and an output of so many places
abbrev pub acting : Meaning → Running → ℕ → ℕ → Acting
acting m g a room =
    cond (not (m.live g.place)) (refused NotLive)
    (cond (not (is_some (letter a))) (refused NoLetter)
    (cond (a == end) (refused EndOffered)
    (cond (nat_le most_acts g.acts) (refused Full)
    (by_following (m.next g.place a) room))))

abbrev pub act_answer : Acting → Result Answer Refusal
act_answer (refused e) = Err e
act_answer dropped = Ok Dropped
act_answer (passed q) = Ok Passed

abbrev pub act_guard : Acting → Running → Running
act_guard (refused e) g = g
act_guard dropped g = running g.place (g.acts + 1)
act_guard (passed q) g = running q (g.acts + 1)

abbrev pub act_writes : Acting → ℕ → List ℕ
act_writes (refused e) a = []
act_writes dropped a = []
act_writes (passed q) a = a ∷ []

-- the lead of a place, and where a letter leads; the end and the same place stand in for what a rule without the laws leaves open
abbrev pub lead_of : Meaning → ℕ → ℕ
lead_of m p = unwrap_or (m.lead p) end

abbrev pub next_of : Meaning → ℕ → ℕ → ℕ
next_of m p a = unwrap_or (m.next p a) p

-- the place after n leads from p, and those leads
abbrev pub place_after : Meaning → ℕ → ℕ → ℕ
place_after m p zero = p
place_after m p (suc n) = next_of m (place_after m p n) (lead_of m (place_after m p n))

abbrev pub leads : Meaning → ℕ → ℕ → List ℕ
leads m p zero = []
leads m p (suc n) = leads m p n ++ lead_of m (place_after m p n) ∷ []

-- what a close comes to: a refusal, or the leads that are owed and the end
pub data Closing : Type 0 where
  barred : Refusal → Closing
  closed : Closing

abbrev pub closing : Meaning → Running → ℕ → Closing
closing m g room =
    cond (not (m.live g.place)) (barred NotLive)
    (cond (nat_le room (m.owed g.place)) (barred Short) closed)

abbrev pub close_place : Meaning → Running → ℕ
close_place m g = next_of m (place_after m g.place (m.owed g.place)) end

abbrev pub close_answer : Meaning → Running → Closing → Result (Resting × ℕ) (Running × Refusal)
close_answer m g (barred e) = Err (g, e)
close_answer m g closed = Ok (resting (close_place m g), m.owed g.place + 1)

abbrev pub close_writes : Meaning → Running → Closing → List ℕ
close_writes m g (barred e) = []
close_writes m g closed = leads m g.place (m.owed g.place) ++ end ∷ []

-- under the laws: the leads until nothing is owed, then the end, from where it leads on
pub record ByLeads (m : Meaning) (g : Running) (r : Resting × ℕ) (wrote : List ℕ) : Type 0 where
  pub way : List ℕ
  pub last : ℕ
  pub led : Led m g.place way last
  pub ends : m.next last end ≡ Some r.0.place
  pub writes : wrote ≡ way ++ end ∷ []
  pub number : r.1 ≡ length wrote

abbrev pub CloseByLeads : Meaning → Running → Result (Resting × ℕ) (Running × Refusal) → List ℕ → Type 0
CloseByLeads m g (Ok r) wrote = ByLeads m g r wrote
CloseByLeads m g (Err e) wrote = wrote ≡ []
