-- What a close writes, letter by letter.
use Rattle.std.proofs.Common.{◌≡◌, ℕ, suc, ◌+◌, ◌<◌, true, cond, not, leb, List, [], ◌∷◌, ◌++◌, length, drop, set, Ok, Result, sym, refl, ap, ◌∙◌, subst, append_assoc, append-nil, arith, add-one, length-append, drop-cons}
use borrow.Author.Tests.{lt-leb}
use lib.Seq.{set_at}
use Rattle.std.proofs.lemmas.List.{drop_all}
use Rattle.letters.specs.Letters.{end}
use Rattle.rules.specs.Meaning.{Meaning, Lawful}
use Rattle.guard.specs.declared.calls.Resting.{Resting}
use Rattle.guard.specs.declared.calls.Running.{Running}
use Rattle.guard.specs.declared.refusal.Refusal.{Refusal}
use Rattle.guard.specs.declared.refusal.Refusal.TheVariants.{NotLive, Short}
use Rattle.guard.specs.Calls.{over, leads, place_after, lead_of, next_of, resting, barred, closed, closing, close_answer, close_writes, CloseByLeads}
use Rattle.guard.proofs.Walking.{length_leads, close_led}

-- one letter more
pub over_more : (ws s : List ℕ) (i v : ℕ) → length ws ≡ i → i < length s → set (over ws s) i v ≡ over (ws ++ v ∷ []) s
over_more ws s i v e h =
    let within : length ws < length s = subst (λ k. k < length s) (sym e) h in
    let longer : length (ws ++ v ∷ []) ≡ suc (length ws) = length-append ws (v ∷ []) ∙ add-one (length ws) in
    ap (λ t. set (ws ++ t) i v) (drop-cons s (length ws) 0 within)
    ∙ set_at ws _ _ v i e
    ∙ sym (append_assoc ws (v ∷ []) _)
    ∙ ap (λ k. (ws ++ v ∷ []) ++ drop k s) (sym longer)

-- the last letter, written first in the rest of an output
over_last : (ws s rest : List ℕ) (n v : ℕ) → length ws ≡ n → n < length s → rest ≡ drop n s → ws ++ set rest 0 v ≡ over (ws ++ v ∷ []) s
over_last ws s rest n v e h back =
    let longer : length (ws ++ v ∷ []) ≡ suc n = length-append ws (v ∷ []) ∙ add-one (length ws) ∙ ap suc e in
    ap (λ xs. ws ++ set xs 0 v) (back ∙ drop-cons s n 0 h) ∙ sym (append_assoc ws (v ∷ []) _) ∙ ap (λ k. (ws ++ v ∷ []) ++ drop k s) (sym longer)

-- after i leads from p, over what the output s was
pub record Sofar (m : Meaning) (p : ℕ) (s : List ℕ) (i : ℕ) (place : ℕ) (out : List ℕ) : Type 0 where
  pub at : place ≡ place_after m p i
  pub wrote : out ≡ over (leads m p i) s

pub sofar_none : (m : Meaning) (p : ℕ) (s : List ℕ) → Sofar m p s 0 p s
sofar_none m p s = record { at = refl; wrote = refl }

pub sofar_more : (m : Meaning) (p : ℕ) (s : List ℕ) (i place : ℕ) (out : List ℕ) (a q : ℕ) → Sofar m p s i place out → i < length s → a ≡ lead_of m place → q ≡ next_of m place a
    → Sofar m p s (i + 1) q (set out i a)
sofar_more m p s i place out a q w h ea eq =
    let lead_is : a ≡ lead_of m (place_after m p i) = ea ∙ ap (lead_of m) w.at in
    let here : Sofar m p s (suc i) q (set out i a) = record {
      at = eq ∙ ap (λ x. next_of m x a) w.at ∙ ap (next_of m (place_after m p i)) lead_is;
      wrote = ap (λ o. set o i a) w.wrote ∙ over_more (leads m p i) s i a (length_leads m p i) h ∙ ap (λ x. over (leads m p i ++ x ∷ []) s) lead_is;
    } in
    subst (λ k. Sofar m p s k q (set out i a)) (sym (add-one i)) here

pub is_closed : (m : Meaning) (g : Running) (room : ℕ) → m.live g.place ≡ true → m.owed g.place < room → closing m g room ≡ closed
is_closed m g room live h =
    ap (λ b. cond (not b) (barred NotLive) (cond (leb room (m.owed g.place)) (barred Short) closed)) live
    ∙ ap (λ b. cond b (barred Short) closed) (lt-leb room (m.owed g.place) h)

pub record Ended (m : Meaning) (g : Running) (s : List ℕ) (r : Result (Resting × ℕ) (Running × Refusal)) (out : List ℕ) : Type 0 where
  pub answer : r ≡ close_answer m g (closing m g (length s))
  pub wrote : out ≡ over (close_writes m g (closing m g (length s))) s
  pub led : Lawful m → CloseByLeads m g r (close_writes m g (closing m g (length s)))

-- after all leads in the output's front, and the end first in the rest
pub sofar_all : (m : Meaning) (g : Running) (s front rest : List ℕ) (i n place q : ℕ) (way : List ℕ) → m.live g.place ≡ true → n ≡ m.owed g.place → i ≡ n → n < length s
    → length front ≡ n → rest ≡ drop n s → Sofar m g.place front i place way → q ≡ next_of m place end → Ended m g s (Ok (resting q, n + 1)) (way ++ set rest 0 end)
sofar_all m g s front rest i n place q way live en stop h long back w eq =
    let p : ℕ = g.place in
    let c : closing m g (length s) ≡ closed = is_closed m g (length s) live (subst (λ k. k < length s) en h) in
    let i_is : i ≡ m.owed p = stop ∙ en in
    let count : length (leads m p i) ≡ n = length_leads m p i ∙ stop in
    let none : drop (length (leads m p i)) front ≡ [] = drop_all _ front (omega (arith, long, count)) in
    let way_is : way ≡ leads m p i = w.wrote ∙ ap (λ xs. leads m p i ++ xs) none ∙ append-nil _ in
    let end_written : way ++ set rest 0 end ≡ over (leads m p i ++ end ∷ []) s = ap (λ xs. xs ++ set rest 0 end) way_is ∙ over_last (leads m p i) s rest n end count h back in
    let made : ◌≡◌ {A = Result (Resting × ℕ) (Running × Refusal)} (Ok (resting q, n + 1)) (close_answer m g closed) =
    ap (λ x. Ok (resting x, n + 1)) (eq ∙ ap (λ x. next_of m x end) w.at ∙ ap (λ k. next_of m (place_after m p k) end) i_is)
    ∙ ap (λ k. Ok (resting (next_of m (place_after m p (m.owed p)) end), k + 1)) en in
    record {
      answer = made ∙ ap (close_answer m g) (sym c);
      wrote = end_written ∙ ap (λ k. over (leads m p k ++ end ∷ []) s) i_is ∙ ap (λ x. over (close_writes m g x) s) (sym c);
      led = λ lawful. subst (λ x. CloseByLeads m g (Ok (resting q, n + 1)) (close_writes m g x)) (sym c)
          (subst (λ y. CloseByLeads m g y (close_writes m g closed)) (sym made) (close_led m lawful g live));
    }
