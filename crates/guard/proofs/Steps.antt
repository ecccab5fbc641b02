-- What one call does to the place of a guard, to the line and to the offers.
use Rattle.std.proofs.Common.{◌≡◌, ℕ, Bool, true, false, cond, not, eqb, ltb, leb, [], ◌∷◌, ◌++◌, is_some as option_is_some, Some, None, Option, sym, refl, ap, ◌∙◌}
use Rattle.std.proofs.lemmas.Bool.{eqb-false}
use Rattle.letters.specs.Letters.{letter, end}
use Rattle.rules.specs.Meaning.{Meaning, Laws}
use Rattle.rules.specs.Lists.{follow, Admitted}
use Rattle.rules.proofs.Follows.{none_some, is_some, follow_one, one_follow, follow_live, closed as clear}
use Rattle.guard.specs.declared.calls.Running.{Running}
use Rattle.guard.specs.declared.refusal.Refusal.{Refusal}
use Rattle.guard.specs.declared.refusal.Refusal.TheVariants.{NotLive, NoLetter, EndOffered, Full, Short}
use Rattle.guard.specs.declared.runs.Call.{Call}
use Rattle.guard.specs.declared.runs.Call.TheVariants.{Begin, Act, Close}
use Rattle.guard.specs.declared.runs.Guard.{Guard}
use Rattle.guard.specs.declared.runs.Guard.TheVariants.{AtRest, InCycle}
use Rattle.guard.specs.Calls.{most_acts, Acting, refused, dropped, passed, by_following, acting, Closing, barred, closed, closing, leads}
use Rattle.guard.specs.Runs.{Event, open_after}
use Rattle.guard.specs.Histories.{act_step, close_step, step, event}
use Rattle.guard.proofs.Lines.{written, offered}
use Rattle.guard.proofs.Walking.{close_follows}

abbrev pub place_of : Guard → ℕ
place_of (AtRest g) = g.place
place_of (InCycle g) = g.place

abbrev pub inside : Guard → Bool
inside (AtRest g) = false
inside (InCycle g) = true

-- the event that a call makes
abbrev pub made : Meaning → Guard → Call → Event
made m g c = event c (step m g c)

-- what an act comes to fits the rule at its place: a letter passed or dropped is not the end
abbrev pub Fits : Meaning → ℕ → ℕ → Acting → Type 0
Fits m p a (refused e) = Unit {0}
Fits m p a dropped = (a ≡ end → ⊥) × (m.next p a ≡ None)
Fits m p a (passed q) = (a ≡ end → ⊥) × (m.next p a ≡ Some q)

fits_test : (m : Meaning) (p a : ℕ) (b : Bool) (e : Refusal) (x : Acting) → (b ≡ false → Fits m p a x) → Fits m p a (cond b (refused e) x)
fits_test m p a true e x h = tt
fits_test m p a false e x h = h refl

fits_room : (m : Meaning) (p a : ℕ) (b : Bool) (q : ℕ) → Fits m p a (passed q) → Fits m p a (cond b (passed q) (refused Short))
fits_room m p a true q h = h
fits_room m p a false q h = tt

fits_following : (m : Meaning) (p a : ℕ) (o : Option ℕ) (room : ℕ) → (a ≡ end → ⊥) → m.next p a ≡ o → Fits m p a (by_following o room)
fits_following m p a None room apart e = (apart, e)
fits_following m p a (Some q) room apart e = fits_room m p a (ltb 0 room) q (apart, e)

pub acting_fits : (m : Meaning) (g : Running) (a room : ℕ) → Fits m g.place a (acting m g a room)
acting_fits m g a room =
    let p = g.place in
    fits_test m p a (not (m.live p)) NotLive _ λ _.
    fits_test m p a (not (option_is_some (letter a))) NoLetter _ λ _.
    fits_test m p a (eqb a end) EndOffered _ λ apart.
    fits_test m p a (leb most_acts g.acts) Full _ λ _.
    fits_following m p a (m.next p a) room (eqb-false a end apart) refl

-- whether a cycle is open is told by the answers
pub step_inside : (m : Meaning) (g : Guard) (c : Call) → open_after (inside g) (step m g c).reply ≡ inside (step m g c).guard
step_inside m (AtRest g) Begin = refl
step_inside m (AtRest g) (Act a room) = refl
step_inside m (AtRest g) (Close room) = refl
step_inside m (InCycle g) Begin = refl
step_inside m (InCycle g) (Act a room) = act (acting m g a room)
  where
    act : (x : Acting) → open_after true (act_step x g a).reply ≡ inside (act_step x g a).guard
    act (refused e) = refl
    act dropped = refl
    act (passed q) = refl
step_inside m (InCycle g) (Close room) = close (closing m g room)
  where
    close : (x : Closing) → open_after true (close_step m x g).reply ≡ inside (close_step m x g).guard
    close (barred e) = refl
    close closed = refl

module _ (m : Meaning) (laws : Laws m) where
  -- what a call adds to the line is admitted, and leads to the place after the call
  act_follows : (g : Running) (a room : ℕ) (x : Acting) → Fits m g.place a x
      → follow m g.place (written (event (Act a room) (act_step x g a))) ≡ Some (place_of (act_step x g a).guard)
  act_follows g a room (refused e) fits = refl
  act_follows g a room dropped fits = refl
  act_follows g a room (passed q) fits = follow_one m g.place a q fits.1

  closing_follows : (g : Running) (room : ℕ) (x : Closing) → m.live g.place ≡ true
      → follow m g.place (written (event (Close room) (close_step m x g))) ≡ Some (place_of (close_step m x g).guard)
  closing_follows g room (barred e) live = refl
  closing_follows g room closed live = close_follows m laws g live

  pub step_follows : (g : Guard) (c : Call) → m.live (place_of g) ≡ true → follow m (place_of g) (written (made m g c)) ≡ Some (place_of (step m g c).guard)
  step_follows (AtRest g) Begin live = refl
  step_follows (AtRest g) (Act a room) live = refl
  step_follows (AtRest g) (Close room) live = refl
  step_follows (InCycle g) Begin live = refl
  step_follows (InCycle g) (Act a room) live = act_follows g a room (acting m g a room) (acting_fits m g a room)
  step_follows (InCycle g) (Close room) live = closing_follows g room (closing m g room) live

  pub step_live : (g : Guard) (c : Call) → m.live (place_of g) ≡ true → m.live (place_of (step m g c).guard) ≡ true
  step_live g c live = follow_live m laws (place_of g) (written (made m g c)) (place_of (step m g c).guard) live (step_follows g c live)

  admitted_one : (p a : ℕ) → Admitted m p (a ∷ []) → (q : ℕ) × (m.next p a ≡ Some q)
  admitted_one p a h = let t = is_some (follow m p (a ∷ [])) h in (t.0, one_follow m p a t.0 t.1)

  -- an offer that is admitted is written, and nothing else
  act_same : (g : Running) (a room : ℕ) (x : Acting) → Fits m g.place a x → Admitted m g.place (offered (event (Act a room) (act_step x g a)))
      → written (event (Act a room) (act_step x g a)) ≡ offered (event (Act a room) (act_step x g a))
  act_same g a room (refused e) fits h = refl
  act_same g a room dropped fits h = absurd (none_some (sym fits.1 ∙ (admitted_one g.place a h).1))
  act_same g a room (passed q) fits h = refl

  close_same : (g : Running) (room : ℕ) (x : Closing) → m.live g.place ≡ true → Admitted m g.place (offered (event (Close room) (close_step m x g)))
      → written (event (Close room) (close_step m x g)) ≡ offered (event (Close room) (close_step m x g))
  close_same g room (barred e) live h = refl
  close_same g room closed live h =
      ap (λ n. leads m g.place n ++ end ∷ []) (clear m laws g.place live (ap option_is_some (admitted_one g.place end h).1))

  pub step_same : (g : Guard) (c : Call) → m.live (place_of g) ≡ true → Admitted m (place_of g) (offered (made m g c)) → written (made m g c) ≡ offered (made m g c)
  step_same (AtRest g) Begin live h = refl
  step_same (AtRest g) (Act a room) live h = refl
  step_same (AtRest g) (Close room) live h = refl
  step_same (InCycle g) Begin live h = refl
  step_same (InCycle g) (Act a room) live h = act_same g a room (acting m g a room) (acting_fits m g a room) h
  step_same (InCycle g) (Close room) live h = close_same g room (closing m g room) live h
