-- A close writes a shortest insertable way and the end.
use Rattle.std.proofs.Common.{◌≡◌, ℕ, ◌+◌, true, List, [], ◌∷◌, ◌++◌, Some, sym, refl, ap, ◌∙◌, subst₂, arith}
use Rattle.std.proofs.lemmas.Bool.{true≢false}
use Rattle.letters.specs.Letters.{end}
use Rattle.rules.specs.Meaning.{Meaning, Lawful}
use Rattle.rules.specs.Lists.{follow}
use Rattle.rules.proofs.Leads.{led_one, leads_shortest}
use Rattle.guard.specs.declared.calls.Running.{Running}
use Rattle.guard.specs.declared.runs.Call.{Call}
use Rattle.guard.specs.declared.runs.Call.TheVariants.{Begin, Act, Close}
use Rattle.guard.specs.declared.runs.Guard.{Guard}
use Rattle.guard.specs.declared.runs.Guard.TheVariants.{AtRest, InCycle}
use Rattle.guard.specs.declared.runs.Reply.TheVariants.{Closed}
use Rattle.guard.specs.Calls.{Closing, barred, closed, closing, leads}
use Rattle.guard.specs.Runs.{line, open_after, ShortestClose, ClosesAreShortest}
use Rattle.guard.specs.Histories.{close_step, step, started, run_of}
use Rattle.guard.proofs.Walking.{leads_led}
use Rattle.guard.proofs.Steps.{place_of, step_inside}
use Rattle.guard.proofs.Invariant.{split, after_run, run_follows, run_live}

module _ (m : Meaning) (lawful : Lawful m) where
  closing_shortest : (g : Running) (x : Closing) (l : List ℕ) (n : ℕ) → m.live g.place ≡ true → follow m m.start l ≡ Some g.place
      → (close_step m x g).reply ≡ Closed n → ShortestClose m l (close_step m x g).wrote n
  closing_shortest g (barred e) l n live at h = absurd (true≢false (ap (open_after true) h))
  closing_shortest g closed l n live at h =
      let p = g.place in
      let s = leads_shortest m lawful p live in
      let same : leads m p (m.owed p) ≡ s.way = (led_one m (leads_led m lawful.laws (m.owed p) p live refl) s.led).0 in
      let number : m.owed p + 1 ≡ n = cc in
      record {
        place = p;
        at = at;
        way = s.way;
        writes = ap (λ l. l ++ end ∷ []) same;
        counts = omega (arith, number, s.long);
        is_way = s.is_way;
        least = s.least;
      }

  step_shortest : (g : Guard) (c : Call) (l : List ℕ) (n : ℕ) → m.live (place_of g) ≡ true → follow m m.start l ≡ Some (place_of g)
      → (step m g c).reply ≡ Closed n → ShortestClose m l (step m g c).wrote n
  step_shortest (AtRest g) Begin l n live at h = absurd (true≢false (ap (open_after true) h))
  step_shortest (AtRest g) (Act a room) l n live at h = absurd (true≢false (ap (open_after true) h))
  step_shortest (AtRest g) (Close room) l n live at h = absurd (true≢false (ap (open_after true) h))
  step_shortest (InCycle g) Begin l n live at h = absurd (true≢false (ap (open_after true) h))
  step_shortest (InCycle g) (Act a room) l n live at h = absurd (true≢false (sym (step_inside m (InCycle g) (Act a room)) ∙ ap (open_after true) h))
  step_shortest (InCycle g) (Close room) l n live at h = closing_shortest g (closing m g room) l n live at h

  pub closes : (calls : List Call) → ClosesAreShortest m (run_of m calls)
  closes calls before after e n is h =
      let s = split m calls (started m) before e after is in
      let here = step_shortest (after_run m s.first) s.call (line (run_of m s.first)) n (run_live m lawful s.first) (run_follows m lawful s.first) in
      subst₂ (λ es f. f.reply ≡ Closed n → ShortestClose m (line es) f.wrote n) (sym s.is_before) (sym s.is_event) here h
