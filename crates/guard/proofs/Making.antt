-- What a call wrote, by its answer, and where it stands in the call's output.
use Rattle.std.proofs.Common.{◌≡◌, ℕ, ◌+◌, ◌≤◌, List, [], ◌∷◌, length, take, drop, sym, refl, ap, ◌∙◌, arith, length-append, length-drop}
use Rattle.std.proofs.lemmas.List.{take_at}
use Rattle.letters.specs.Letters.{end}
use Rattle.rules.specs.Meaning.{Meaning}
use Rattle.guard.specs.declared.calls.Running.{Running}
use Rattle.guard.specs.declared.runs.Call.{Call}
use Rattle.guard.specs.declared.runs.Call.TheVariants.{Begin, Act, Close}
use Rattle.guard.specs.declared.runs.Guard.{Guard}
use Rattle.guard.specs.declared.runs.Guard.TheVariants.{AtRest, InCycle}
use Rattle.guard.specs.Calls.{over, Acting, refused, dropped, passed, acting, Closing, barred, closed, closing, leads}
use Rattle.guard.specs.Histories.{number_written, act_step, close_step, step}
use Rattle.guard.proofs.Walking.{length_leads}

act_count : (x : Acting) (g : Running) (a : ℕ) → number_written (act_step x g a).reply ≡ length (act_step x g a).wrote
act_count (refused e) g a = refl
act_count dropped g a = refl
act_count (passed q) g a = refl

close_count : (m : Meaning) (x : Closing) (g : Running) → number_written (close_step m x g).reply ≡ length (close_step m x g).wrote
close_count m (barred e) g = refl
close_count m closed g = sym (length-append (leads m g.place (m.owed g.place)) (end ∷ []) ∙ ap (λ k. k + 1) (length_leads m g.place (m.owed g.place)))

-- an answer tells how many letters were written
pub step_count : (m : Meaning) (g : Guard) (c : Call) → number_written (step m g c).reply ≡ length (step m g c).wrote
step_count m (AtRest g) Begin = refl
step_count m (AtRest g) (Act a room) = refl
step_count m (AtRest g) (Close room) = refl
step_count m (InCycle g) Begin = refl
step_count m (InCycle g) (Act a room) = act_count (acting m g a room) g a
step_count m (InCycle g) (Close room) = close_count m (closing m g room) g

-- what was written fits the output, and is its first places
pub over_within : (ws s t : List ℕ) → t ≡ over ws s → length t ≡ length s → length ws ≤ length s
over_within ws s t e h = omega (arith, ap length e, length-append ws (drop (length ws) s), length-drop (length ws) s)

pub over_front : (ws s t : List ℕ) (n : ℕ) → t ≡ over ws s → n ≡ length ws → take n t ≡ ws
over_front ws s t n e h = ap (take n) e ∙ take_at ws (drop (length ws) s) n (sym h)
