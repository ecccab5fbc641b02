-- The loop of a whole reading: records counted so far, and what is left.
use Rattle.std.proofs.Common.{◌≡◌, ℕ, suc, ◌+◌, ◌-◌, ◌<◌, ◌≤◌, List, length, Some, None, Ok, Err, Option, Result, sym, ap, ◌∙◌, subst, arith}
use Rattle.records.specs.declared.fault.ReadFault.{ReadFault}
use Rattle.records.specs.declared.record.Record.{Record}
use Rattle.records.specs.Readings.{Reading, reading, reading_at, with_item}
use Rattle.records.specs.Readers.{item_of, Hands, HandsRecord}
use Rattle.property.proofs.Filling.{Answer, hands_of}
use Rattle.cases.specs.Reading.{outcome, by_fault}

pub record Sofar (file seen : List ℕ) (at count : ℕ) : Type 0 where
  pub same : seen ≡ file
  pub few : count ≤ at
  pub within : at ≤ length file
  pub left : outcome count (reading_at file at) ≡ outcome 0 (reading file)

pub sofar_none : (file seen : List ℕ) (at : ℕ) → seen ≡ file → at ≡ 0 → reading_at file 0 ≡ reading file → Sofar file seen at 0
sofar_none file seen at e z whole =
    record { same = e; few = omega arith; within = omega arith; left = ap (λ n. outcome 0 (reading_at file n)) z ∙ ap (outcome 0) whole }

one_more : (count : ℕ) (r : Record × ℕ) (rest : Reading) → outcome (count + 1) rest ≡ outcome count (with_item (item_of r) rest)
one_more count r rest =
    let n : count + 1 + length rest.items ≡ count + suc (length rest.items) = omega arith in
    ap (λ k. by_fault k rest.fault) n

pub sofar_more : (file seen later : List ℕ) (at after count : ℕ) (x : Answer) (r : Record × ℕ) → Sofar file seen at count → later ≡ seen → Hands seen at x after → x ≡ Ok (Some r)
    → Sofar file later after (count + 1) × (length file - after < length file - at)
sofar_more file seen later at after count x r s k h e =
    let g : HandsRecord file at r after = hands_of file seen at after x (Ok (Some r)) s.same h e in (
      record {
        same = k ∙ s.same;
        few = omega (arith, g.moved, s.few);
        within = g.within;
        left = one_more count r (reading_at file after) ∙ ap (outcome count) (sym g.next) ∙ s.left;
      },
      omega (arith, g.moved, g.within),
    )

pub sofar_over : (file seen : List ℕ) (at after count : ℕ) (x : Answer) → Sofar file seen at count → Hands seen at x after → x ≡ Ok None → Ok count ≡ outcome 0 (reading file)
sofar_over file seen at after count x s h e =
    let n : count ≡ count + 0 = omega arith in
    let g = hands_of file seen at after x (Ok None) s.same h e in
    ap Ok n ∙ ap (outcome count) (sym g.0) ∙ s.left

pub sofar_fault : (file seen : List ℕ) (at after count : ℕ) (x : Answer) (fault : ReadFault) → Sofar file seen at count → Hands seen at x after → x ≡ Err fault → Err fault ≡ outcome 0 (reading file)
sofar_fault file seen at after count x fault s h e =
    let g = hands_of file seen at after x (Err fault) s.same h e in
    ap (outcome count) (sym g.0) ∙ s.left
