-- The loop over the calls of a run: what was answered and written so far, and what the calls that are left add.
use Rattle.std.proofs.Common.{◌≡◌, ℕ, suc, ◌+◌, ◌<◌, ◌≤◌, cond, List, [], ◌∷◌, ◌++◌, map, length, get_or, drop, vec_items, sym, refl, ap, ap₂, ◌∙◌, subst, append_assoc, append-nil, add-one, drop-cons}
use Rattle.std.proofs.lemmas.List.{drop_all}
use Rattle.rules.specs.Meaning.{Meaning}
use Rattle.guard.specs.declared.calls.Running.{Running}
use Rattle.guard.specs.declared.runs.Call.{Call}
use Rattle.guard.specs.declared.runs.Call.TheVariants.{Begin, Act, Close}
use Rattle.guard.specs.declared.runs.Guard.{Guard}
use Rattle.guard.specs.declared.runs.Guard.TheVariants.{AtRest, InCycle}
use Rattle.guard.specs.declared.runs.Reply.{Reply}
use Rattle.guard.specs.declared.runs.Run.{Run}
use Rattle.guard.specs.Calls.{Acting, refused, dropped, passed, acting, Closing, barred, closed, closing}
use Rattle.guard.specs.Runs.{Event, accepted, line}
use Rattle.guard.specs.Histories.{Step, Takes, Told, step, act_step, close_step, events, guard_after, started, run_of}

abbrev replies_of : List Event → List Reply
replies_of es = map (λ (e : Event). e.reply) es

-- a call that is not accepted writes nothing
act_wrote : (x : Acting) (g : Running) (a : ℕ) → cond (accepted (act_step x g a).reply) (act_step x g a).wrote [] ≡ (act_step x g a).wrote
act_wrote (refused e) g a = refl
act_wrote dropped g a = refl
act_wrote (passed q) g a = refl

close_adds : (m : Meaning) (x : Closing) (g : Running) → cond (accepted (close_step m x g).reply) (close_step m x g).wrote [] ≡ (close_step m x g).wrote
close_adds m (barred e) g = refl
close_adds m closed g = refl

step_wrote : (m : Meaning) (g : Guard) (c : Call) → cond (accepted (step m g c).reply) (step m g c).wrote [] ≡ (step m g c).wrote
step_wrote m (AtRest g) Begin = refl
step_wrote m (AtRest g) (Act a room) = refl
step_wrote m (AtRest g) (Close room) = refl
step_wrote m (InCycle g) Begin = refl
step_wrote m (InCycle g) (Act a room) = act_wrote (acting m g a room) g a
step_wrote m (InCycle g) (Close room) = close_adds m (closing m g room) g

-- after the first i calls
pub record Sofar (m : Meaning) (calls : List Call) (i : ℕ) (x : Run) : Type 0 where
  pub answers : vec_items x.replies ++ replies_of (events m x.guard (drop i calls)) ≡ replies_of (run_of m calls)
  pub writes : vec_items x.line ++ line (events m x.guard (drop i calls)) ≡ line (run_of m calls)
  pub goes : guard_after m x.guard (drop i calls) ≡ guard_after m (started m) calls

pub sofar_more : (m : Meaning) (calls : List Call) (i : ℕ) (x y : Run) → Sofar m calls i x → i < length calls → Takes (step m x.guard (get_or calls i Begin)) x y → Sofar m calls (i + 1) y
unfolding events guard_after line
sofar_more m calls i x y s k t =
    let g : Guard = x.guard in
    let c : Call = get_or calls i Begin in
    let s' : Step = step m g c in
    let rest : List Call = drop (suc i) calls in
    let front : drop i calls ≡ c ∷ rest = drop-cons calls i Begin k in
    let replies = vec_items x.replies in
    let written = vec_items x.line in
    let next : Sofar m calls (suc i) y = record {
      answers =
          ap₂ (λ (rs : List Reply) h. rs ++ replies_of (events m h rest)) t.replies t.guard
          ∙ append_assoc replies (s'.reply ∷ []) (replies_of (events m s'.guard rest))
          ∙ ap (λ cs. replies ++ replies_of (events m g cs)) (sym front)
          ∙ s.answers;
      writes =
          ap₂ (λ (ws : List ℕ) h. ws ++ line (events m h rest)) t.line_is t.guard
          ∙ append_assoc written s'.wrote (line (events m s'.guard rest))
          ∙ ap (λ ws. written ++ (ws ++ line (events m s'.guard rest))) (sym (step_wrote m g c))
          ∙ ap (λ cs. written ++ line (events m g cs)) (sym front)
          ∙ s.writes;
      goes = ap (λ h. guard_after m h rest) t.guard ∙ ap (guard_after m g) (sym front) ∙ s.goes;
    } in
    subst (λ n. Sofar m calls n y) (sym (add-one i)) next

pub sofar_all : (m : Meaning) (calls : List Call) (i : ℕ) (x : Run) → Sofar m calls i x → length calls ≤ i → Told m calls x
unfolding events guard_after line
sofar_all m calls i x s h =
    let none : drop i calls ≡ [] = drop_all i calls h in
    record {
      replies = sym (append-nil (vec_items x.replies)) ∙ ap (λ cs. vec_items x.replies ++ replies_of (events m x.guard cs)) (sym none) ∙ s.answers;
      line_is = sym (append-nil (vec_items x.line)) ∙ ap (λ cs. vec_items x.line ++ line (events m x.guard cs)) (sym none) ∙ s.writes;
      guard_is = ap (guard_after m x.guard) (sym none) ∙ s.goes;
    }
