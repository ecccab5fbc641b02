-- Guards at one place, both inside a cycle or both outside, answer alike until one of them is full.
use Rattle.std.proofs.Common.{◌≡◌, ℕ, Bool, true, false, cond, not, ◌||◌, eqb, leb, List, [], ◌∷◌, is_some, sym, refl, ap, ◌∙◌, subst, subst₂}
use mathlib.Core.Bool.{or-true}
use mathlib.Core.List.{append_cancel_left}
use Rattle.std.proofs.lemmas.Bool.{true≢false, false≢true}
use Rattle.letters.specs.Letters.{letter, end}
use Rattle.rules.specs.Meaning.{Meaning, Lawful}
use Rattle.rules.specs.Lists.{follow}
use Rattle.guard.specs.declared.refusal.Refusal.TheVariants.{NotLive, NoLetter, EndOffered, Full}
use Rattle.guard.specs.declared.runs.Call.{Call}
use Rattle.guard.specs.declared.runs.Call.TheVariants.{Begin, Act, Close}
use Rattle.guard.specs.declared.runs.Guard.{Guard}
use Rattle.guard.specs.declared.runs.Guard.TheVariants.{AtRest, InCycle}
use Rattle.guard.specs.Calls.{running, most_acts, Acting, refused, dropped, passed, by_following, acting, Closing, barred, closed, closing}
use Rattle.guard.specs.Runs.{full, Alike, EqualLinesBehaveAlike}
use Rattle.guard.specs.Histories.{Step, act_reply, act_step, close_step, step, events, started, run_of}
use Rattle.guard.proofs.Steps.{place_of, inside}
use Rattle.guard.proofs.Invariant.{events_inside, events_join, after_run, run_follows, run_at}

abbrev Same : Guard → Guard → Type 0
Same g h = (place_of g ≡ place_of h) × (inside g ≡ inside h)

-- neither answer is full
abbrev Unfull : Step → Step → Type 0
Unfull s t = (full s.reply || full t.reply) ≡ false

abbrev Agree : Step → Step → Type 0
Agree s t = (s.reply ≡ t.reply) × (s.wrote ≡ t.wrote) × Same s.guard t.guard

-- the tests of an act that come before the test of its acts, that test, and the rest
abbrev tested : Bool → Bool → Bool → Bool → Acting → Acting
tested dead strange ends many x = cond dead (refused NotLive) (cond strange (refused NoLetter) (cond ends (refused EndOffered) (cond many (refused Full) x)))

tests_same : (dead strange ends many more : Bool) (x : Acting)
    → (full (act_reply (tested dead strange ends many x)) || full (act_reply (tested dead strange ends more x))) ≡ false
    → tested dead strange ends many x ≡ tested dead strange ends more x
tests_same true strange ends many more x h = refl
tests_same false true ends many more x h = refl
tests_same false false true many more x h = refl
tests_same false false false true more x h = absurd (true≢false h)
tests_same false false false false true x h = absurd (true≢false (sym (or-true (full (act_reply x))) ∙ h))
tests_same false false false false false x h = refl

act_agree : (x y : Acting) (p n k a : ℕ) → x ≡ y → Agree (act_step x (running p n) a) (act_step y (running p k) a)
act_agree x y p n k a e = subst (λ z. Agree (act_step x (running p n) a) (act_step z (running p k) a)) e (same x)
  where
    same : (z : Acting) → Agree (act_step z (running p n) a) (act_step z (running p k) a)
    same (refused r) = (refl, refl, (refl, refl))
    same dropped = (refl, refl, (refl, refl))
    same (passed q) = (refl, refl, (refl, refl))

close_agree : (m : Meaning) (x : Closing) (p n k : ℕ) → Agree (close_step m x (running p n)) (close_step m x (running p k))
close_agree m (barred e) p n k = (refl, refl, (refl, refl))
close_agree m closed p n k = (refl, refl, (refl, refl))

running_agree : (m : Meaning) (c : Call) (p n k : ℕ) → Unfull (step m (InCycle (running p n)) c) (step m (InCycle (running p k)) c)
    → Agree (step m (InCycle (running p n)) c) (step m (InCycle (running p k)) c)
running_agree m Begin p n k u = (refl, refl, (refl, refl))
running_agree m (Act a room) p n k u =
    act_agree (acting m (running p n) a room) (acting m (running p k) a room) p n k a
    (tests_same (not (m.live p)) (not (is_some (letter a))) (eqb a end) (leb most_acts n) (leb most_acts k) (by_following (m.next p a) room) u)
running_agree m (Close room) p n k u = close_agree m (closing m (running p n) room) p n k

step_agree : (m : Meaning) (c : Call) (g h : Guard) → Same g h → Unfull (step m g c) (step m h c) → Agree (step m g c) (step m h c)
step_agree m Begin (AtRest g) (AtRest h) s u = (refl, refl, (s.0, refl))
step_agree m (Act a room) (AtRest g) (AtRest h) s u = (refl, refl, (s.0, refl))
step_agree m (Close room) (AtRest g) (AtRest h) s u = (refl, refl, (s.0, refl))
step_agree m c (AtRest g) (InCycle h) s u = absurd (false≢true s.1)
step_agree m c (InCycle g) (AtRest h) s u = absurd (true≢false s.1)
step_agree m c (InCycle g) (InCycle h) s u =
    subst (λ q. Unfull (step m (InCycle g) c) (step m (InCycle (running q h.acts)) c) → Agree (step m (InCycle g) c) (step m (InCycle (running q h.acts)) c))
    s.0 (running_agree m c g.place g.acts h.acts) u

events_alike : (m : Meaning) (calls : List Call) (g h : Guard) → Same g h → Alike (events m g calls) (events m h calls)
unfolding events Alike
events_alike m [] g h s = tt
events_alike m (c ∷ cs) g h s = λ u.
    let t = step_agree m c g h s u in
    (t.0, t.1, events_alike m cs (step m g c).guard (step m h c).guard t.2)

pub alike : (m : Meaning) → Lawful m → EqualLinesBehaveAlike (run_of m)
alike m lawful one other further es fs lines kinds here there =
    let s = started m in
    let g = after_run m one in
    let h = after_run m other in
    let place = run_at m lawful one (place_of h) (ap (follow m m.start) lines ∙ run_follows m lawful other) in
    let kind = sym (events_inside m one s) ∙ kinds ∙ events_inside m other s in
    let es_are = append_cancel_left (run_of m one) (events m g further) es (sym (events_join m one further s) ∙ here) in
    let fs_are = append_cancel_left (run_of m other) (events m h further) fs (sym (events_join m other further s) ∙ there) in
    subst₂ Alike es_are fs_are (events_alike m further g h (place, kind))
