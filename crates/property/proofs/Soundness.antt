-- The nodes of a file that passes the checks are sound.
use Rattle.std.proofs.Common.{◌≡◌, ℕ, suc, ◌<◌, ◌≤◌, Bool, true, false, cond, not, eqb, ltb, leb, List, [], ◌∷◌, ◌++◌, map, length, get_or, Some, None, Ok, Err, Option, Result, sym, refl, ap, ◌∙◌, subst, inl, inr, arith, length-append}
use lib.Seq.{get_or-append_seam}
use Rattle.std.proofs.lemmas.Bool.{and_parts, and_from, or_parts, ltb-true, ltb-false, lt-ltb, leb-true, not-false, not-true}
use Rattle.letters.specs.Alphabets.{among, ascending_from}
use Rattle.records.specs.declared.fault.ReadFault.{ReadFault}
use Rattle.records.specs.Readings.{Item, reading}
use Rattle.property.specs.declared.fault.PropertyFault.{PropertyFault}
use Rattle.property.specs.declared.fault.PropertyFault.TheVariants.{Declaration, TooManyNodes, NotEarlier, WrongKind, BranchLetter, OpenLap, NoProperty}
use Rattle.property.specs.Checks.{Parts, alphabet_of, barred_next, names, named_earlier, named_kinds, letters_in_order, lap_closes, most_nodes, node_fault, with_letter, with_node, unless, judge, then_judge, judge_all, has_property, at_end, no_parts, checked}
use Rattle.std.specs.List.{list_all}
use Rattle.property.specs.Nodes.{Node, Nothing, Choice, Sequence, Both, Lap, All, node, node_of, is_loop}
use Rattle.property.specs.Sized.{NamesEarlier}
use Rattle.property.specs.Sound.{PlainEarlier, LoopEarlier, SoundBranches, SoundNode, Sound}
use Rattle.property.proofs.Appending.{node_append, closes_append}
use Rattle.property.proofs.Numbering.{lt_or_ge}

abbrev EachSound : List ℕ → List Node → Type 0
EachSound alphabet nodes = (n : ℕ) → n < length nodes → SoundNode alphabet nodes n (node nodes n)

-- a sound node names only earlier ones
branches_earlier : (alphabet : List ℕ) (nodes : List Node) (n k : ℕ) (bs : List (ℕ × ℕ)) → SoundBranches alphabet nodes n k bs
    → list_all (λ m. ltb m n) (map (λ (b : ℕ × ℕ). b.1) bs) ≡ true
branches_earlier alphabet nodes n k [] h = refl
branches_earlier alphabet nodes n k (b ∷ bs) h =
    and_from (ltb b.1 n) _ (lt-ltb b.1 n h.2.0) (branches_earlier alphabet nodes n (suc b.0) bs h.3)

two_earlier : (n a b : ℕ) → a < n → b < n → list_all (λ m. ltb m n) (a ∷ b ∷ []) ≡ true
two_earlier n a b h k = and_from (ltb a n) _ (lt-ltb a n h) (and_from (ltb b n) true (lt-ltb b n k) refl)

node_earlier : (alphabet : List ℕ) (nodes : List Node) (n : ℕ) (x : Node) → SoundNode alphabet nodes n x → list_all (λ m. ltb m n) (names x) ≡ true
node_earlier alphabet nodes n Nothing h = refl
node_earlier alphabet nodes n (Choice bs) h = branches_earlier alphabet nodes n 0 bs h
node_earlier alphabet nodes n (Sequence a b) h = two_earlier n a b h.0.0 h.1.0
node_earlier alphabet nodes n (Both a b) h = two_earlier n a b h.0.0 h.1.0
node_earlier alphabet nodes n (Lap a) h = and_from (ltb a n) true (lt-ltb a n h.0.0) refl
node_earlier alphabet nodes n (All a b) h = two_earlier n a b h.0.0 h.1.0

earlier_each : (alphabet : List ℕ) (nodes : List Node) → EachSound alphabet nodes → NamesEarlier nodes
earlier_each alphabet nodes ok n h = node_earlier alphabet nodes n (node nodes n) (ok n h)

pub sound_earlier : (alphabet : List ℕ) (nodes : List Node) → Sound alphabet nodes → NamesEarlier nodes
sound_earlier alphabet nodes s = earlier_each alphabet nodes s.each

-- a sound node stays sound where nodes are appended
module _ (alphabet : List ℕ) (nodes more : List Node) (n : ℕ) (within : n ≤ length nodes) where
  plain_append : (m : ℕ) → PlainEarlier nodes n m → PlainEarlier (nodes ++ more) n m
  plain_append m h = (h.0, ap is_loop (node_append nodes more m (omega arith)) ∙ h.1)

  loop_append : (m : ℕ) → LoopEarlier nodes n m → LoopEarlier (nodes ++ more) n m
  loop_append m h = (h.0, ap is_loop (node_append nodes more m (omega arith)) ∙ h.1)

  branches_append : (k : ℕ) (bs : List (ℕ × ℕ)) → SoundBranches alphabet nodes n k bs → SoundBranches alphabet (nodes ++ more) n k bs
  branches_append k [] h = tt
  branches_append k (b ∷ bs) h = (h.0, h.1, plain_append b.1 h.2, branches_append (suc b.0) bs h.3)

  sound_append : NamesEarlier nodes → (x : Node) → SoundNode alphabet nodes n x → SoundNode alphabet (nodes ++ more) n x
  sound_append ok Nothing h = tt
  sound_append ok (Choice bs) h = branches_append 0 bs h
  sound_append ok (Sequence a b) h = (plain_append a h.0, plain_append b h.1)
  sound_append ok (Both a b) h = (plain_append a h.0, plain_append b h.1)
  sound_append ok (Lap a) h = (plain_append a h.0, closes_append nodes more ok a (omega (arith, h.0.0)) ∙ h.1)
  sound_append ok (All a b) h = (loop_append a h.0, loop_append b h.1)

-- a node that passes its checks is sound
module _ (alphabet : List ℕ) (nodes : List Node) where
  branches_pass : (k : ℕ) (bs : List (ℕ × ℕ))
      → list_all (λ m. ltb m (length nodes)) (map (λ (b : ℕ × ℕ). b.1) bs) ≡ true
      → list_all (λ m. not (is_loop (node nodes m))) (map (λ (b : ℕ × ℕ). b.1) bs) ≡ true
      → ascending_from k (map (λ (b : ℕ × ℕ). b.0) bs) ≡ true
      → list_all (λ l. among l alphabet) (map (λ (b : ℕ × ℕ). b.0) bs) ≡ true
      → SoundBranches alphabet nodes (length nodes) k bs
  branches_pass k [] earlier plain ascending known = tt
  branches_pass k (b ∷ bs) earlier plain ascending known =
      let e = and_parts (ltb b.1 (length nodes)) _ earlier in
      let p = and_parts (not (is_loop (node nodes b.1))) _ plain in
      let a = and_parts (leb k b.0) _ ascending in
      let l = and_parts (among b.0 alphabet) _ known in
      (leb-true k b.0 a.0, l.0, (ltb-true b.1 (length nodes) e.0, not-true _ p.0), branches_pass (suc b.0) bs e.1 p.1 a.1 l.1)

  two_pass : (test : ℕ → Bool) (a b : ℕ) → list_all (λ m. ltb m (length nodes)) (a ∷ b ∷ []) ≡ true → list_all test (a ∷ b ∷ []) ≡ true
      → ((a < length nodes) × (test a ≡ true)) × ((b < length nodes) × (test b ≡ true))
  two_pass test a b earlier tested =
      let e = and_parts (ltb a (length nodes)) _ earlier in
      let f = and_parts (ltb b (length nodes)) true e.1 in
      let p = and_parts (test a) _ tested in
      let q = and_parts (test b) true p.1 in
      ((ltb-true a (length nodes) e.0, p.0), (ltb-true b (length nodes) f.0, q.0))

  two_plain : (a b : ℕ) → list_all (λ m. ltb m (length nodes)) (a ∷ b ∷ []) ≡ true → list_all (λ m. not (is_loop (node nodes m))) (a ∷ b ∷ []) ≡ true
      → PlainEarlier nodes (length nodes) a × PlainEarlier nodes (length nodes) b
  two_plain a b earlier plain =
      let r = two_pass (λ m. not (is_loop (node nodes m))) a b earlier plain in
      ((r.0.0, not-true _ r.0.1), (r.1.0, not-true _ r.1.1))

  node_passes : (x : Node) → named_earlier nodes x ≡ true → named_kinds nodes x ≡ true → letters_in_order alphabet x ≡ true → lap_closes nodes x ≡ true
      → SoundNode alphabet nodes (length nodes) x
  node_passes Nothing earlier kinds letters closing = tt
  node_passes (Choice bs) earlier kinds letters closing =
      let p = and_parts (ascending_from 0 (map (λ (b : ℕ × ℕ). b.0) bs)) _ letters in
      branches_pass 0 bs earlier kinds p.0 p.1
  node_passes (Sequence a b) earlier kinds letters closing = two_plain a b earlier kinds
  node_passes (Both a b) earlier kinds letters closing = two_plain a b earlier kinds
  node_passes (Lap a) earlier kinds letters closing =
      let e = and_parts (ltb a (length nodes)) true earlier in
      let p = and_parts (not (is_loop (node nodes a))) true kinds in
      ((ltb-true a (length nodes) e.0, not-true _ p.0), closing)
  node_passes (All a b) earlier kinds letters closing = two_pass (λ m. is_loop (node nodes m)) a b earlier kinds

-- so the nodes with it are
appended : (alphabet : List ℕ) (nodes : List Node) (x : Node) → EachSound alphabet nodes → SoundNode alphabet nodes (length nodes) x → EachSound alphabet (nodes ++ x ∷ [])
appended alphabet nodes x ok new n h = elim (lt_or_ge n (length nodes)) [
  | inl l ↦
      subst (SoundNode alphabet (nodes ++ x ∷ []) n) (sym (node_append nodes (x ∷ []) n l))
      (sound_append alphabet nodes (x ∷ []) n (omega arith) (earlier_each alphabet nodes ok) (node nodes n) (ok n l))
  | inr l ↦
      let at_end : length nodes ≡ n = omega (arith, h, length-append nodes (x ∷ [])) in
      subst (λ k. SoundNode alphabet (nodes ++ x ∷ []) k (node (nodes ++ x ∷ []) k)) at_end
      (subst (SoundNode alphabet (nodes ++ x ∷ []) (length nodes)) (sym (get_or-append_seam nodes x [] Nothing))
      (sound_append alphabet nodes (x ∷ []) (length nodes) (omega arith) (earlier_each alphabet nodes ok) x new))
]

no_fault : (t : Bool) (fault : PropertyFault) (further : Option PropertyFault) → cond t (Some fault) further ≡ None → (t ≡ false) × (further ≡ None)
no_fault true fault further e = (cc, cc)
no_fault false fault further e = (refl, e)

faultless : (s : Parts) (x : Node) (at : ℕ) → node_fault s x at ≡ None → SoundNode (alphabet_of s) s.nodes (length s.nodes) x
faultless s x at e =
    let few = no_fault (leb most_nodes (length s.nodes)) (TooManyNodes at) _ e in
    let earlier = no_fault (not (named_earlier s.nodes x)) (NotEarlier at) _ few.1 in
    let kinds = no_fault (not (named_kinds s.nodes x)) (WrongKind at) _ earlier.1 in
    let letters = no_fault (not (letters_in_order (alphabet_of s) x)) (BranchLetter at) _ kinds.1 in
    let closing = no_fault (not (lap_closes s.nodes x)) (OpenLap at) None letters.1 in
    node_passes (alphabet_of s) s.nodes x (not-false _ earlier.0) (not-false _ kinds.0) (not-false _ letters.0) (not-false _ closing.0)

abbrev SoFar : Parts → Type 0
SoFar s = EachSound (alphabet_of s) s.nodes

-- one record
letter_sound : (s t : Parts) (b at : ℕ) (barred_here : Bool) → barred_next s b ≡ barred_here → cond barred_here (Err (Declaration at)) (Ok (with_letter s b)) ≡ Ok t → SoFar t
letter_sound s t b at true e q = absurd (let z : ◌≡◌ {A = ℕ} 0 1 = cc in omega arith)
letter_sound s t b at false e q =
    let none : length s.nodes ≤ 0 = ltb-false 0 (length s.nodes) (or_parts (ltb 0 (length s.nodes)) _ e).0 in
    let with_b : with_letter s b ≡ t = cc in
    subst SoFar with_b (λ n h. absurd (omega arith))

node_sound : (s t : Parts) (x : Node) (at : ℕ) (fault : Option PropertyFault) → node_fault s x at ≡ fault → SoFar s → unless fault (with_node s x) ≡ Ok t → SoFar t
node_sound s t x at (Some fault) e ok q = absurd (let z : ◌≡◌ {A = ℕ} 0 1 = cc in omega arith)
node_sound s t x at None e ok q =
    let with_x : with_node s x ≡ t = cc in
    subst SoFar with_x (appended (alphabet_of s) s.nodes x ok (faultless s x at e))

record_sound : (s t : Parts) (i : Item) (declares : Bool) → SoFar s
    → cond declares
    (cond (barred_next s (get_or i.body 0 0)) (Err (Declaration i.offset)) (Ok (with_letter s (get_or i.body 0 0))))
    (unless (node_fault s (node_of i.kind i.body) i.offset) (with_node s (node_of i.kind i.body))) ≡ Ok t
    → SoFar t
record_sound s t i true ok q = letter_sound s t (get_or i.body 0 0) i.offset (barred_next s (get_or i.body 0 0)) refl q
record_sound s t i false ok q = node_sound s t (node_of i.kind i.body) i.offset _ refl ok q

judged_sound : (s t : Parts) (i : Item) → SoFar s → judge s i ≡ Ok t → SoFar t
unfolding judge
judged_sound s t i ok q = record_sound s t i (eqb i.kind 1) ok q

then_ok : (rest : Parts → Result Parts PropertyFault) (r : Result Parts PropertyFault) (t : Parts) → then_judge rest r ≡ Ok t → (s : Parts) × (r ≡ Ok s) × (rest s ≡ Ok t)
then_ok rest (Ok s) t e = (s, refl, e)
then_ok rest (Err fault) t e = absurd (let z : ◌≡◌ {A = ℕ} 0 1 = cc in omega arith)

all_sound : (s t : Parts) (is : List Item) → SoFar s → judge_all s is ≡ Ok t → SoFar t
unfolding judge_all
all_sound s t [] ok e = let same_parts : s ≡ t = cc in subst SoFar same_parts ok
all_sound s t (i ∷ is) ok e =
    let r = then_ok (λ u. judge_all u is) (judge s i) t e in
    all_sound r.0 t is (judged_sound s r.0 i ok r.1) r.2

has_loop : (s t : Parts) (file_length : ℕ) (b : Bool) → has_property s ≡ b → cond b (Ok s) (Err (NoProperty file_length)) ≡ Ok t → (s ≡ t) × (has_property s ≡ true)
has_loop s t file_length true e q = (cc, e)
has_loop s t file_length false e q = absurd (let z : ◌≡◌ {A = ℕ} 0 1 = cc in omega arith)

ended_well : (s t : Parts) (file_length : ℕ) (fault : Option ReadFault) → at_end file_length fault s ≡ Ok t → (s ≡ t) × (has_property s ≡ true)
ended_well s t file_length (Some fault) e = absurd (let z : ◌≡◌ {A = ℕ} 0 1 = cc in omega arith)
ended_well s t file_length None e = has_loop s t file_length (has_property s) refl e

sound_parts : (s : Parts) → SoFar s → has_property s ≡ true → Sound (alphabet_of s) s.nodes
sound_parts s ok e =
    let p = and_parts (ltb 0 (length s.nodes)) _ e in
    record { each = ok; some = ltb-true 0 (length s.nodes) p.0; property = p.1 }

pub sound : (file : List ℕ) (s : Parts) → checked file ≡ Ok s → Sound (alphabet_of s) s.nodes
unfolding checked
sound file s e =
    let r = then_ok (at_end (length file) (reading file).fault) (judge_all no_parts (reading file).items) s e in
    let last = ended_well r.0 s (length file) (reading file).fault r.2 in
    let ok : SoFar r.0 = all_sound no_parts r.0 (reading file).items (λ n h. absurd (omega arith)) r.1 in
    subst (λ (t : Parts). Sound (alphabet_of t) t.nodes) last.0 (sound_parts r.0 ok last.1)
