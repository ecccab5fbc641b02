-- The line of one cycle, its end left out, is admitted from where the cycle begins, and so no longer than the span.
use Rattle.std.proofs.Common.{◌≡◌, ℕ, ◌+◌, ◌≤◌, true, false, List, [], ◌∷◌, ◌++◌, length, is_some, sym, refl, ap, ◌∙◌, subst, append-nil}
use Rattle.std.proofs.lemmas.Bool.{false≢true}
use Rattle.letters.specs.Letters.{end}
use Rattle.rules.specs.Meaning.{Meaning, Lawful}
use Rattle.rules.specs.Lists.{and_then, follow, Admitted}
use Rattle.rules.proofs.Leads.{led_follow, led_inserts}
use Rattle.rules.proofs.Spans.{spans}
use Rattle.guard.specs.declared.calls.Running.{Running}
use Rattle.guard.specs.declared.runs.Call.{Call}
use Rattle.guard.specs.declared.runs.Call.TheVariants.{Begin, Act, Close}
use Rattle.guard.specs.declared.runs.Guard.{Guard}
use Rattle.guard.specs.declared.runs.Guard.TheVariants.{AtRest, InCycle}
use Rattle.guard.specs.declared.runs.Reply.TheVariants.{Begun}
use Rattle.guard.specs.Calls.{running, Acting, refused, dropped, passed, acting, Closing, barred, closed, closing, leads}
use Rattle.guard.specs.Runs.{Event, line, open_after, OneCycle, without_end, CyclesKeepToSpan}
use Rattle.guard.specs.Histories.{act_reply, act_step, close_step, step, event, events, started, run_of}
use Rattle.guard.proofs.Lines.{insertable_endless, without_end_endless, without_end_more, without_last}
use Rattle.guard.proofs.Walking.{leads_led}
use Rattle.guard.proofs.Steps.{place_of, Fits, acting_fits}
use Rattle.guard.proofs.Invariant.{events_front, split, after_run, run_live, run_at}

-- the line of a cycle, its end left out, is admitted from a place
abbrev Goes : Meaning → ℕ → List Event → Type 0
Goes m p cycle = OneCycle cycle → Admitted m p (without_end (line cycle))

module _ (m : Meaning) (lawful : Lawful m) where
  act_goes : (g : Running) (a room : ℕ) (x : Acting) (cs : List Call) → Fits m g.place a x → m.live g.place ≡ true
      → ((h : Running) → m.live h.place ≡ true → Goes m h.place (events m (InCycle h) cs))
      → Goes m g.place (event (Act a room) (act_step x g a) ∷ events m (act_step x g a).guard cs)
  unfolding line OneCycle
  act_goes g a room (refused e) cs fits live on one = on g live one.1
  act_goes g a room dropped cs fits live on one = on (running g.place (g.acts + 1)) live one.1
  act_goes g a room (passed q) cs fits live on one =
      let h = running q (g.acts + 1) in
      let rest = line (events m (InCycle h) cs) in
      let later = on h (lawful.laws.stays g.place a q live fits.1) one.1 in
      ap (λ l. is_some (follow m g.place l)) (without_end_more a rest fits.0)
      ∙ ap (λ o. is_some (and_then o (λ x. follow m x (without_end rest)))) fits.1
      ∙ later

  close_goes : (g : Running) (room : ℕ) (x : Closing) (cs : List Call) → m.live g.place ≡ true
      → ((h : Running) → m.live h.place ≡ true → Goes m h.place (events m (InCycle h) cs))
      → Goes m g.place (event (Close room) (close_step m x g) ∷ events m (close_step m x g).guard cs)
  unfolding line OneCycle
  close_goes g room (barred e) cs live on one = on g live one.1
  close_goes g room closed cs live on one =
      let p = g.place in
      let n = m.owed p in
      let led = leads_led m lawful.laws n p live refl in
      let is_last = one.0 (n + 1) refl in
      let wrote = leads m p n ++ end ∷ [] in
      let letters : without_end wrote ≡ leads m p n = without_last (leads m p n) (insertable_endless (leads m p n) (led_inserts m lawful.laws live led)) in
      ap (λ es. is_some (follow m p (without_end (wrote ++ line es)))) is_last
      ∙ ap (λ l. is_some (follow m p (without_end l))) (append-nil wrote)
      ∙ ap (λ l. is_some (follow m p l)) letters
      ∙ ap is_some (led_follow m led)

  cycle_goes : (calls : List Call) (g : Running) → m.live g.place ≡ true → Goes m g.place (events m (InCycle g) calls)
  unfolding line OneCycle events
  cycle_goes [] g live one = refl
  cycle_goes (Begin ∷ cs) g live one = cycle_goes cs g live one.1
  cycle_goes (Act a room ∷ cs) g live one = act_goes g a room (acting m g a room) cs (acting_fits m g a room) live (cycle_goes cs) one
  cycle_goes (Close room ∷ cs) g live one = close_goes g room (closing m g room) cs live (cycle_goes cs) one

  act_begins : (x : Acting) → act_reply x ≡ Begun → ⊥
  act_begins (refused e) h = false≢true (ap (open_after false) h)
  act_begins dropped h = false≢true (ap (open_after false) h)
  act_begins (passed q) h = false≢true (ap (open_after false) h)

  close_begins : (g : Running) (x : Closing) → (close_step m x g).reply ≡ Begun → ⊥
  close_begins g (barred e) h = false≢true (ap (open_after false) h)
  close_begins g closed h = false≢true (ap (open_after false) h)

  -- a begin leaves the guard at its place, inside a cycle
  begun_at : (g : Guard) (c : Call) → (step m g c).reply ≡ Begun → (step m g c).guard ≡ InCycle (running (place_of g) 0)
  begun_at (AtRest g) Begin h = refl
  begun_at (AtRest g) (Act a room) h = absurd (false≢true (ap (open_after false) h))
  begun_at (AtRest g) (Close room) h = absurd (false≢true (ap (open_after false) h))
  begun_at (InCycle g) Begin h = absurd (false≢true (ap (open_after false) h))
  begun_at (InCycle g) (Act a room) h = absurd (act_begins (acting m g a room) h)
  begun_at (InCycle g) (Close room) h = absurd (close_begins g (closing m g room) h)

  cycle_spans : (calls : List Call) (g : Running) → m.live g.place ≡ true → (cycle : List Event) → cycle ≡ events m (InCycle g) calls → OneCycle cycle
      → length (without_end (line cycle)) ≤ m.span g.place
  cycle_spans calls g live cycle e one =
      let goes = subst (Goes m g.place) (sym e) (cycle_goes calls g live) in
      spans m lawful g.place live (without_end (line cycle)) (without_end_endless (line cycle)) (goes one)

  pub cycles : (calls : List Call) → CyclesKeepToSpan m (run_of m calls)
  cycles calls before cycle after b is begun one place at =
      let s = split m calls (started m) before b (cycle ++ after) is in
      let g = after_run m s.first in
      let p = place_of g in
      let here = run_at m lawful s.first place (ap (λ es. follow m m.start (line es)) (sym s.is_before) ∙ at) in
      let in_cycle = begun_at g s.call (sym (ap (λ (e : Event). e.reply) s.is_event) ∙ begun) in
      let front = events_front m s.later (InCycle (running p 0)) cycle after (sym (s.is_after ∙ ap (λ h. events m h s.later) in_cycle)) in
      subst (λ q. length (without_end (line cycle)) ≤ m.span q) here (cycle_spans front.0 (running p 0) (run_live m lawful s.first) cycle front.1 one)
