-- Claims of property files are decided over the places of the property that the file makes.
use Rattle.std.proofs.Common.{◌≡◌, ℕ, ◌<◌, ◌≤◌, Bool, true, false, not, ◌&&◌, ◌↔◌, eqb, leb, List, [], ◌∷◌, ◌++◌, length, Some, None, Ok, Err, Option, Result, refl, sym, ap, ◌∙◌, subst, arith}
use Rattle.std.proofs.lemmas.Bool.{false≢true, true≢false, and_parts, not-true, eqb-true, leb-true}
use Rattle.letters.specs.Letters.{end}
use Rattle.rules.specs.Lists.{follow_by, Admits}
use Rattle.rules.specs.Meaning.{Meaning, Lawful}
use Rattle.rules.specs.Tabled.{tabled}
use Rattle.rules.proofs.Follows.{by_join}
use Rattle.property.specs.Checks.{Parts, checked, alphabet_of}
use Rattle.property.specs.Sized.{most_size}
use Rattle.property.specs.Sound.{Sound}
use Rattle.property.specs.Traces.{PropertyBeginning, last_node}
use Rattle.property.specs.declared.fault.PropertyFault.{PropertyFault}
use Rattle.property.proofs.Soundness.{sound}
use Rattle.places.specs.Laps.{loop}
use Rattle.places.specs.Loops.{Loop, LeadsToLive, Fair}
use Rattle.places.specs.Owing.{LoopOwed, LoopSpan}
use Rattle.places.proofs.Shown.{beginnings_lead, places_fair}
use Rattle.synthesis.specs.declared.fault.SynthesisFault.{SynthesisFault}
use Rattle.synthesis.specs.declared.fault.SynthesisFault.TheVariants.{Property, TooLarge, TableMemory, WorkingMemory, Stuck}
use Rattle.synthesis.specs.Faults.{synthesis_report}
use Rattle.synthesis.specs.Synthesis.{Lent, Refused, Strands, Synthesis, property_size, table_room, work_room}
use Rattle.guard.specs.Histories.{run_of}
use Rattle.guard.specs.Runs.{line}
use Rattle.guard.specs.declared.runs.Run.{Run}
use Rattle.enforcer.specs.declared.enforce.Limit.TheVariants.{Unlimited}
use Rattle.enforcer.specs.declared.fault.EnforcerFault.{EnforcerFault}
use Rattle.enforcer.specs.declared.fault.EnforcerFault.TheVariants.{File, Limit, Memory}
use Rattle.enforcer.specs.Enforcement.{Enforcement}
use Rattle.cases.specs.Claims.{Claim, HasSize, NoBeginning, Owes, Spans, Refuses, Writes, OwedAfter, SpanAfter, Suffice, RefusedWith, rounds, Wrote, HoldsOf}
use Rattle.cases.proofs.Trying.{leads_to, leads_in}
use Rattle.cases.proofs.Deciding.{live, settled, leads_live, owes, spans, strands, free, live_sound, stays_in, leads_live_complete, owed_is, span_is, strands_sound, free_sound}
use Rattle.cases.proofs.Rounds.{spells, line_of}

abbrev pub gives : Option ℕ → ℕ → Bool
gives None k = false
gives (Some j) k = eqb j k

given : (o : Option ℕ) (k : ℕ) → gives o k ≡ true → o ≡ Some k
given None k e = absurd (false≢true e)
given (Some j) k e = ap Some (eqb-true j k e)

ok_inj : {T E : Type 0} (x y : T) → ◌≡◌ {A = Result T E} (Ok x) (Ok y) → x ≡ y
ok_inj x y e = cc

not_err : {T E : Type 0} (x : T) (y : E) → ◌≡◌ {A = Result T E} (Ok x) (Err y) → ⊥
not_err x y e = let z : ◌≡◌ {A = ℕ} 0 1 = cc in omega arith

-- the loop of the property
abbrev pub own_loop : Parts → Loop
own_loop parts = loop parts.nodes (last_node parts.nodes)

-- what is asked of the places of the loop
abbrev pub told_of : Loop → List ℕ → Claim → Bool
told_of r letters (HasSize k) = true
told_of r letters (NoBeginning t) = not (leads_live r letters t)
told_of r letters (Owes t k) = leads_to (λ p. gives (owes r letters r.size p) k) (follow_by r.next r.boundary t)
told_of r letters (Spans t k) = leads_to (λ p. live r letters p && eqb (spans r letters r.size p) k) (follow_by r.next r.boundary t)
told_of r letters (Refuses n) = eqb (synthesis_report (Stuck 0)).number n && strands r letters r.size r.boundary
told_of r letters (Writes n line) = free r letters && spells r letters n r.boundary line

-- what is asked of the size
abbrev pub sized : ℕ → Claim → Bool
sized s (HasSize k) = eqb s k
sized s (NoBeginning t) = true
sized s (Owes t k) = true
sized s (Spans t k) = true
sized s (Refuses n) = leb s most_size
sized s (Writes n line) = leb s most_size

abbrev pub told : Parts → Claim → Bool
told parts claim =
    sized (property_size parts) claim && (settled (own_loop parts) (alphabet_of parts) && told_of (own_loop parts) (alphabet_of parts) claim)

abbrev pub decides : Result Parts PropertyFault → Claim → Bool
decides (Ok parts) claim = told parts claim
decides (Err fault) claim = false

module _ (file : List ℕ) (parts : Parts) (passes : checked file ≡ Ok parts) where
  abbrev r : Loop
  r = own_loop parts

  abbrev letters : List ℕ
  letters = alphabet_of parts

  is_sound : Sound letters parts.nodes
  is_sound = sound file parts passes

  within : last_node parts.nodes < length parts.nodes
  within = omega (arith, is_sound.some)

  begins : (t : List ℕ) → PropertyBeginning parts.nodes t ↔ LeadsToLive r t
  begins = beginnings_lead letters parts.nodes is_sound (last_node parts.nodes) within is_sound.property

  fair : Fair r letters
  fair = places_fair letters parts.nodes is_sound (last_node parts.nodes) within is_sound.property

  -- a list after one that leads to the place p
  module _ (t : List ℕ) (p : ℕ) (at : follow_by r.next r.boundary t ≡ Some p) where
    onto : (u : List ℕ) (q : ℕ) → follow_by r.next p u ≡ Some q → follow_by r.next r.boundary (t ++ u) ≡ Some q
    onto u q e = by_join r.next r.boundary t u p at ∙ e

    from : (u : List ℕ) (q : ℕ) → follow_by r.next r.boundary (t ++ u) ≡ Some q → follow_by r.next p u ≡ Some q
    from u q e = sym (by_join r.next r.boundary t u p at) ∙ e

    owed_after : (k : ℕ) → LoopOwed r p k → OwedAfter parts.nodes t k
    owed_after k o =
        let w = o.way in
        record {
          way = (w.0, w.1, w.2.inserts, (begins (t ++ (w.0 ++ end ∷ []))).1 (w.2.last, onto (w.0 ++ end ∷ []) w.2.last w.2.leads, w.2.live));
          least = λ u i b.
              let v = (begins (t ++ (u ++ end ∷ []))).0 b in
              o.least u (record { inserts = i; last = v.0; leads = from (u ++ end ∷ []) v.0 v.1; live = v.2 });
        }

    span_after : (k : ℕ) → LoopSpan r p k → SpanAfter parts.nodes t k
    span_after k s =
        let w = s.longest in
        record {
          longest = (w.0, w.1, w.2, (begins (t ++ w.0)).1 (w.3.0, onto w.0 w.3.0 w.3.1, w.3.2));
          most = λ u f b. let v = (begins (t ++ u)).0 b in s.most u v.0 f (from u v.0 v.1) v.2;
        }

  -- a file that fits is refused only for a stranded beginning
  module _ (room work : ℕ) (small : property_size parts ≤ most_size) (fits : Suffice parts room work) where
    abbrev Stranded : SynthesisFault → Type 0
    Stranded fault = (at : ℕ) × (fault ≡ Stuck at) × Strands parts.nodes

    same_parts : (other : Parts) → checked file ≡ Ok other → other ≡ parts
    same_parts other e = ok_inj other parts (sym e ∙ passes)

    refused : (fault : SynthesisFault) → Refused file room work fault → Stranded fault
    refused (Property fault) x = absurd (not_err parts fault (sym passes ∙ x))
    refused (TooLarge at) x = let e = same_parts x.0 x.1.passes in absurd (omega (arith, x.2, ap property_size e))
    refused (TableMemory at) x =
        let e = same_parts x.0 x.1.passes in absurd (omega (arith, subst (λ s. room < table_room s) e x.3, fits.table_fits))
    refused (WorkingMemory at) x =
        let e = same_parts x.0 x.1.passes in absurd (omega (arith, subst (λ s. work < work_room s) e x.4, fits.work_fits))
    refused (Stuck at) x = (at, refl, subst (λ s. Strands s.nodes) (same_parts x.0 x.1.passes.passes) x.2)

  module _ (ok : settled r letters ≡ true) where
    reaches : (t : List ℕ) (p : ℕ) → follow_by r.next r.boundary t ≡ Some p → p < r.size
    reaches t p e = stays_in r letters fair ok t r.boundary p fair.starts e

    strands_here : strands r letters r.size r.boundary ≡ true → Strands parts.nodes
    strands_here e =
        let w = strands_sound r letters fair ok r.size r.boundary fair.starts ([], refl) e in (
          w.0,
          (begins w.0).1 (w.1, w.2, w.3.0),
          λ u i b. let v = (begins (w.0 ++ (u ++ end ∷ []))).0 b in
              w.3.1 u (record { inserts = i; last = v.0; leads = from w.0 w.1 w.2 (u ++ end ∷ []) v.0 v.1; live = v.2 }),
        )

    free_here : free r letters ≡ true → Strands parts.nodes → ⊥
    free_here e s =
        let v = (begins s.0).0 s.1 in
        let w = free_sound r letters fair ok e v.0 (reaches s.0 v.0 v.1) v.2 in
        s.2 w.0 w.1.inserts ((begins (s.0 ++ (w.0 ++ end ∷ []))).1 (w.1.last, onto s.0 v.0 v.1 (w.0 ++ end ∷ []) w.1.last w.1.leads, w.1.live))

    -- the answer that synthesis gives
    refused_with : (n : ℕ) (before after : Lent) (answer : Result ℕ SynthesisFault) → property_size parts ≤ most_size
        → Suffice parts (length before.table) (length before.work) → (synthesis_report (Stuck 0)).number ≡ n → Strands parts.nodes
        → Synthesis file before answer after → RefusedWith n answer
    refused_with n before after (Ok rows) small fits e s x =
        let same = same_parts (length before.table) (length before.work) small fits x.parts x.fits.passes.passes in
        x.free (subst (λ z. Strands z.nodes) (sym same) s)
    refused_with n before after (Err fault) small fits e s x =
        let w = refused (length before.table) (length before.work) small fits fault x.0 in
        ap (λ f. (synthesis_report f).number) w.1 ∙ e

    -- the line that the rule of a table writes
    table_writes : (n : ℕ) (ls : List ℕ) (m : Meaning) (room : ℕ) → Lawful m → ((t : List ℕ) → Admits m t ↔ PropertyBeginning parts.nodes t)
        → spells r letters n r.boundary ls ≡ true → length ls ≤ room → line (run_of m (rounds room n)) ≡ ls
    table_writes n ls m room lawful admits e few =
        line_of r letters m lawful fair ok n ls r.boundary m.start room fair.starts lawful.meant.starts
        (λ u. (λ a. (begins u).0 ((admits u).0 a), λ v. (admits u).1 ((begins u).1 v))) e few

    -- the answer that enforcement gives
    wrote : (n : ℕ) (ls : List ℕ) (room : ℕ) (table work table_after work_after : List ℕ) (answer : Result Run EnforcerFault) → property_size parts ≤ most_size
        → length ls ≤ room → Suffice parts (length table) (length work) → free r letters ≡ true → spells r letters n r.boundary ls ≡ true
        → Enforcement file Unlimited (rounds room n) table work answer table_after work_after → Wrote ls answer
    wrote n ls room table work table_after work_after (Ok x) small few fits f e (t, w) =
        let same = same_parts (length table) (length work) small fits t.made.parts t.made.fits.passes.passes in
        let m = tabled (alphabet_of t.made.parts) table_after t.rows in
        let admits = subst (λ z. (l : List ℕ) → Admits m l ↔ PropertyBeginning z.nodes l) same t.made.table.admits in
        w.runs.told.line_is ∙ table_writes n ls m room t.made.table.lawful admits e few
    wrote n ls room table work table_after work_after (Err (File fault)) small few fits f e x =
        free_here f (refused (length table) (length work) small fits fault x.0).2
    wrote n ls room table work table_after work_after (Err (Limit fault)) small few fits f e x = x.1
    wrote n ls room table work table_after work_after (Err Memory) small few fits f e x = tt

    told_sound : (claim : Claim) → sized (property_size parts) claim ≡ true → told_of r letters claim ≡ true → HoldsOf file parts claim
    told_sound (HasSize k) s e = eqb-true (property_size parts) k s
    told_sound (NoBeginning t) s e = λ b. true≢false (sym (leads_live_complete r letters fair ok t ((begins t).0 b)) ∙ not-true _ e)
    told_sound (Owes t k) s e =
        let g = leads_in (λ p. gives (owes r letters r.size p) k) (follow_by r.next r.boundary t) e in
        owed_after t g.0 g.1 k (owed_is r letters fair ok g.0 k (reaches t g.0 g.1) (t, g.1) (given (owes r letters r.size g.0) k g.2))
    told_sound (Spans t k) s e =
        let g = leads_in (λ p. live r letters p && eqb (spans r letters r.size p) k) (follow_by r.next r.boundary t) e in
        let parts_of = and_parts (live r letters g.0) (eqb (spans r letters r.size g.0) k) g.2 in
        let span = span_is r letters fair ok g.0 (reaches t g.0 g.1) (t, g.1) (live_sound r letters g.0 parts_of.0) in
        span_after t g.0 g.1 k (subst (LoopSpan r g.0) (eqb-true (spans r letters r.size g.0) k parts_of.1) span)
    told_sound (Refuses n) s e =
        let b = and_parts (eqb (synthesis_report (Stuck 0)).number n) (strands r letters r.size r.boundary) e in
        λ before after answer fits x.
        refused_with n before after answer (leb-true (property_size parts) most_size s) fits (eqb-true (synthesis_report (Stuck 0)).number n b.0) (strands_here b.1) x
    told_sound (Writes n ls) s e =
        let b = and_parts (free r letters) (spells r letters n r.boundary ls) e in
        λ room table work table_after work_after answer few fits x.
        wrote n ls room table work table_after work_after answer (leb-true (property_size parts) most_size s) few fits b.0 b.1 x

-- a claim that is decided holds
pub decided : (file : List ℕ) (claim : Claim) (x : Result Parts PropertyFault) → checked file ≡ x → decides x claim ≡ true
    → (parts : Parts) × (checked file ≡ Ok parts) × HoldsOf file parts claim
decided file claim (Ok parts) passes e =
    let first = and_parts (sized (property_size parts) claim) _ e in
    let second = and_parts (settled (own_loop parts) (alphabet_of parts)) (told_of (own_loop parts) (alphabet_of parts) claim) first.1 in
    (parts, passes, told_sound file parts passes second.0 claim first.0 second.1)
decided file claim (Err fault) passes e = absurd (false≢true e)
