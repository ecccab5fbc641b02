-- A run is an execution of the edit automaton of what the rule admits.
use Rattle.std.proofs.Common.{◌≡◌, ℕ, true, List, [], ◌∷◌, ◌++◌, is_some as option_is_some, Some, sym, refl, ap, ◌∙◌, subst, append_assoc, append-nil, arith}
use Rattle.letters.specs.Letters.{end}
use Rattle.rules.specs.Meaning.{Meaning, Laws, Lawful}
use Rattle.rules.specs.Lists.{follow, Led, done, more}
use Rattle.rules.proofs.Follows.{none_some, is_some, follow_join, follow_one, one_follow, closes, closed as clear}
use Rattle.rules.proofs.Leads.{led_inserts}
use Rattle.guard.specs.declared.calls.Running.{Running}
use Rattle.guard.specs.declared.runs.Call.{Call}
use Rattle.guard.specs.declared.runs.Call.TheVariants.{Begin, Act, Close}
use Rattle.guard.specs.declared.runs.Guard.{Guard}
use Rattle.guard.specs.declared.runs.Guard.TheVariants.{AtRest, InCycle}
use Rattle.guard.specs.Calls.{Acting, refused, dropped, passed, acting, Closing, barred, closed, closing, leads}
use Rattle.guard.specs.Edits.{Edit, allow, suppress, insert_before, outputs, triggers, Execution, over, allows, suppresses, inserts}
use Rattle.guard.specs.Runs.{Event, line, offers, AdmittedNext, EditsAsAutomaton}
use Rattle.guard.specs.Histories.{act_step, close_step, step, event, events, started, run_of}
use Rattle.guard.proofs.Lines.{written, offered}
use Rattle.guard.proofs.Walking.{leads_led}
use Rattle.guard.proofs.Steps.{place_of, made, Fits, acting_fits, step_follows, step_live}

-- edits after a line that take the offers, and put out the letters
record Edited (m : Meaning) (l os ws : List ℕ) : Type 0 where
  pub edits : List Edit
  pub executes : Execution (AdmittedNext m) l os edits
  pub puts_out : outputs edits ≡ ws
  pub takes : triggers edits ≡ os

-- the edits of a close: its letters inserted before the end, then the end allowed
abbrev closing_edits : List ℕ → List Edit → List Edit
closing_edits [] es = allow end ∷ es
closing_edits (a ∷ xs) es = insert_before a end ∷ closing_edits xs es

closing_outputs : (xs : List ℕ) (es : List Edit) → outputs (closing_edits xs es) ≡ (xs ++ end ∷ []) ++ outputs es
closing_outputs [] es = refl
closing_outputs (a ∷ xs) es = ap (λ l. a ∷ l) (closing_outputs xs es)

closing_triggers : (xs : List ℕ) (es : List Edit) → triggers (closing_edits xs es) ≡ end ∷ triggers es
closing_triggers [] es = refl
closing_triggers (a ∷ xs) es = closing_triggers xs es

module _ (m : Meaning) (laws : Laws m) where
  -- what may follow a line is what the rule admits at the place that the line leads to
  follows_next : (l : List ℕ) (p a q : ℕ) → follow m m.start l ≡ Some p → m.next p a ≡ Some q → follow m m.start (l ++ a ∷ []) ≡ Some q
  follows_next l p a q at goes = follow_join m m.start l (a ∷ []) p at ∙ follow_one m p a q goes

  next_follows : (l : List ℕ) (p a : ℕ) → follow m m.start l ≡ Some p → AdmittedNext m l a → (q : ℕ) × (m.next p a ≡ Some q)
  next_follows l p a at h =
      let t = is_some (follow m m.start (l ++ a ∷ [])) h in
      (t.0, one_follow m p a t.0 (sym (follow_join m m.start l (a ∷ []) p at) ∙ t.1))

  -- while letters are owed the end may not follow, and the leads are inserted before it
  closing_executes : {p : ℕ} {xs : List ℕ} {r : ℕ} (l os : List ℕ) (es : List Edit) → m.live p ≡ true → follow m m.start l ≡ Some p → Led m p xs r
      → Execution (AdmittedNext m) (l ++ (xs ++ end ∷ [])) os es → Execution (AdmittedNext m) l (end ∷ os) (closing_edits xs es)
  closing_executes {p} l os es live at (done e) rest =
      let t = is_some (m.next p end) (closes m laws p live e) in
      allows (ap option_is_some (follows_next l p end t.0 at t.1)) rest
  closing_executes {p} l os es live at (more {a = a} {q = q} {xs = xs} pos lead goes led) rest =
      let here = follows_next l p a q at goes in
      inserts
      (λ h. let owed = clear m laws p live (ap option_is_some (next_follows l p end at h).1) in omega arith)
      (led_inserts m laws live (more pos lead goes led)).0
      (ap option_is_some here)
      (closing_executes (l ++ a ∷ []) os es (laws.stays p a q live goes) here led
      (subst (λ k. Execution (AdmittedNext m) k os es) (sym (append_assoc l (a ∷ []) (xs ++ end ∷ []))) rest))

  -- a call that adds neither to the line nor to the offers
  silent : (l os ws : List ℕ) → Edited m (l ++ []) os ws → Edited m l os ws
  silent l os ws t = subst (λ k. Edited m k os ws) (append-nil l) t

  -- the edits of an event, before those of later ones
  abbrev EditsFirst : List ℕ → Event → Type 0
  EditsFirst l e = (os ws : List ℕ) → Edited m (l ++ written e) os ws → Edited m l (offered e ++ os) (written e ++ ws)

  act_edited : (g : Running) (a room : ℕ) (x : Acting) (l : List ℕ) → Fits m g.place a x → follow m m.start l ≡ Some g.place
      → EditsFirst l (event (Act a room) (act_step x g a))
  act_edited g a room (refused e) l fits at os ws t = silent l os ws t
  act_edited g a room dropped l fits at os ws t =
      let s = silent l os ws t in
      record {
        edits = suppress a ∷ s.edits;
        executes = suppresses fits.0 (λ h. none_some (sym fits.1 ∙ (next_follows l g.place a at h).1)) s.executes;
        puts_out = s.puts_out;
        takes = ap (λ k. a ∷ k) s.takes;
      }
  act_edited g a room (passed q) l fits at os ws t =
      record {
        edits = allow a ∷ t.edits;
        executes = allows (ap option_is_some (follows_next l g.place a q at fits.1)) t.executes;
        puts_out = ap (λ k. a ∷ k) t.puts_out;
        takes = ap (λ k. a ∷ k) t.takes;
      }

  close_edited : (g : Running) (room : ℕ) (x : Closing) (l : List ℕ) → m.live g.place ≡ true → follow m m.start l ≡ Some g.place
      → EditsFirst l (event (Close room) (close_step m x g))
  close_edited g room (barred e) l live at os ws t = silent l os ws t
  close_edited g room closed l live at os ws t =
      let p = g.place in
      let xs = leads m p (m.owed p) in
      record {
        edits = closing_edits xs t.edits;
        executes = closing_executes l os t.edits live at (leads_led m laws (m.owed p) p live refl) t.executes;
        puts_out = closing_outputs xs t.edits ∙ ap (λ k. (xs ++ end ∷ []) ++ k) t.puts_out;
        takes = closing_triggers xs t.edits ∙ ap (λ k. end ∷ k) t.takes;
      }

  step_edited : (g : Guard) (c : Call) (l : List ℕ) → m.live (place_of g) ≡ true → follow m m.start l ≡ Some (place_of g) → EditsFirst l (made m g c)
  step_edited (AtRest g) Begin l live at = silent l
  step_edited (AtRest g) (Act a room) l live at = silent l
  step_edited (AtRest g) (Close room) l live at = silent l
  step_edited (InCycle g) Begin l live at = silent l
  step_edited (InCycle g) (Act a room) l live at = act_edited g a room (acting m g a room) l (acting_fits m g a room) at
  step_edited (InCycle g) (Close room) l live at = close_edited g room (closing m g room) l live at

  events_edited : (calls : List Call) (g : Guard) (l : List ℕ) → m.live (place_of g) ≡ true → follow m m.start l ≡ Some (place_of g)
      → Edited m l (offers (events m g calls)) (line (events m g calls))
  unfolding line offers events
  events_edited [] g l live at = record { edits = []; executes = over; puts_out = refl; takes = refl }
  events_edited (c ∷ cs) g l live at =
      let h = (step m g c).guard in
      let w = written (made m g c) in
      step_edited g c l live at (offers (events m h cs)) (line (events m h cs))
      (events_edited cs h (l ++ w) (step_live m laws g c live) (follow_join m m.start l w (place_of g) at ∙ step_follows m laws g c live))

pub edits : (m : Meaning) → Lawful m → (calls : List Call) → EditsAsAutomaton m (run_of m calls)
edits m lawful calls =
    let t = events_edited m lawful.laws calls (started m) [] lawful.meant.starts refl in
    record { edits = t.edits; executes = t.executes; puts_out = t.puts_out; takes = t.takes }
