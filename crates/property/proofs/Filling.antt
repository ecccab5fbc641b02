-- The loop over a file's records: what has been taken on, and what is left.
use Rattle.std.proofs.Common.{◌≡◌, ℕ, ◌≤◌, Bool, true, false, cond, List, [], length, Some, None, Ok, Err, Option, Result, sym, refl, ap, ◌∙◌, subst, arith}
use Rattle.records.specs.declared.fault.ReadFault.{ReadFault}
use Rattle.records.specs.declared.record.Record.{Record}
use Rattle.records.specs.Readings.{Reading, Item, reading, reading_at, ended, with_item}
use Rattle.records.specs.Readers.{item_of, Hands, HandsRecord}
use Rattle.property.specs.declared.fault.PropertyFault.{PropertyFault}
use Rattle.property.specs.declared.fault.PropertyFault.TheVariants.{Read, NoProperty}
use Rattle.property.specs.Checks.{Parts, then_judge, at_end, judge, judge_all, no_parts, has_property, checked}
use Rattle.property.specs.Drafts.{parts, Kept}
use Rattle.property.specs.Nodes.{Node}
use Rattle.property.specs.Placed.{closings, last_offset}

-- what the rest of a reading comes to
abbrev rest : List ℕ → Parts → Reading → Result Parts PropertyFault
rest file s r = then_judge (at_end (length file) r.fault) (judge_all s r.items)

pub record Sofar (file seen : List ℕ) (at : ℕ) (s : Parts) (closing : List Bool) (last : ℕ) : Type 0 where
  pub same : seen ≡ file
  pub within : at ≤ length file
  pub left : rest file s (reading_at file at) ≡ checked file
  pub kept : Kept s.nodes closing
  pub ends : last_offset last (reading_at file at).items ≡ last_offset 0 (reading file).items

whole : (file : List ℕ) → rest file no_parts (reading file) ≡ checked file
unfolding checked
whole file = refl

none_kept : Kept [] []
unfolding closings
none_kept = record { exact = refl; named = λ n l. absurd (omega arith) }

pub sofar_none : (file seen : List ℕ) (at : ℕ) (ds : List ℕ) (ns : List Node) (cs : List Bool) (last : ℕ) → seen ≡ file → at ≡ 0 → reading_at file 0 ≡ reading file
    → ds ≡ [] → ns ≡ [] → cs ≡ [] → last ≡ 0 → Sofar file seen at (parts ds ns) cs last
sofar_none file seen at ds ns cs last e z w ed en ec el =
    let P : List Node → Type 0 = λ ns. Kept ns cs in
    let Q : List Bool → Type 0 = λ cs. Kept [] cs in
    record {
      same = e;
      within = omega arith;
      left =
          ap (λ l. rest file (parts l ns) (reading_at file at)) ed ∙ ap (λ ms. rest file (parts [] ms) (reading_at file at)) en
          ∙ ap (λ n. rest file no_parts (reading_at file n)) z ∙ ap (rest file no_parts) w ∙ whole file;
      kept = subst P (sym en) (subst Q (sym ec) none_kept);
      ends = ap (λ n. last_offset n (reading_at file at).items) el ∙ ap (λ n. last_offset 0 (reading_at file n).items) z ∙ ap (λ (r : Reading). last_offset 0 r.items) w;
    }

pub unopened : (file : List ℕ) (fault : ReadFault) → reading file ≡ ended (Some fault) → Err (Read fault) ≡ checked file
unfolding judge_all
unopened file fault e = sym (ap (rest file no_parts) e) ∙ whole file

-- an answer of the reader
abbrev pub Answer : Type 0
Answer = Result (Option (Record × ℕ)) ReadFault

-- what the reader hands out of the file that it holds, it hands out of the file
pub hands_of : (file seen : List ℕ) (at after : ℕ) (x y : Answer) → seen ≡ file → Hands seen at x after → x ≡ y → Hands file at y after
hands_of file seen at after x y e h k = subst (λ z. Hands file at z after) k (subst (λ f. Hands f at x after) e h)

one_judged : (file : List ℕ) (s t : Parts) (i : Item) (r : Reading) → Ok t ≡ judge s i → rest file t r ≡ rest file s (with_item i r)
unfolding judge_all
one_judged file s t i r e = ap (λ q. then_judge (at_end (length file) r.fault) (then_judge (λ u. judge_all u r.items) q)) e

one_refused : (file : List ℕ) (s : Parts) (i : Item) (r : Reading) (fault : PropertyFault) → Err fault ≡ judge s i → Err fault ≡ rest file s (with_item i r)
unfolding judge_all
one_refused file s i r fault e = ap (λ q. then_judge (at_end (length file) r.fault) (then_judge (λ u. judge_all u r.items) q)) e

one_further : (last : ℕ) (i : Item) (r : Reading) → last_offset i.offset r.items ≡ last_offset last (with_item i r).items
unfolding last_offset
one_further last i r = refl

module _ (file seen : List ℕ) (at after : ℕ) (s : Parts) (cs : List Bool) (last : ℕ) (x : Answer) (sofar : Sofar file seen at s cs last) (hands : Hands seen at x after) where
  module _ (r : Record × ℕ) (is : x ≡ Ok (Some r)) where
    handed : HandsRecord file at r after
    handed = hands_of file seen at after x (Ok (Some r)) sofar.same hands is

    pub sofar_more : (later : List ℕ) (t : Parts) (ds : List Bool) → later ≡ seen → Ok t ≡ judge s (item_of r) → Kept t.nodes ds → Sofar file later after t ds r.1
    sofar_more later t ds e j k =
        let g = handed in
        record {
          same = e ∙ sofar.same;
          within = g.within;
          left = one_judged file s t (item_of r) (reading_at file after) j ∙ ap (rest file s) (sym g.next) ∙ sofar.left;
          kept = k;
          ends = one_further last (item_of r) (reading_at file after) ∙ ap (λ (q : Reading). last_offset last q.items) (sym g.next) ∙ sofar.ends;
        }

    pub sofar_refused : (fault : PropertyFault) → Err fault ≡ judge s (item_of r) → Err fault ≡ checked file
    sofar_refused fault e =
        let g = handed in
        one_refused file s (item_of r) (reading_at file after) fault e ∙ ap (rest file s) (sym g.next) ∙ sofar.left

  pub sofar_fault : (fault : ReadFault) → x ≡ Err fault → Err (Read fault) ≡ checked file
  unfolding judge_all
  sofar_fault fault e =
      let g = hands_of file seen at after x (Err fault) sofar.same hands e in
      sym (ap (rest file s) g.0) ∙ sofar.left

  module _ (over : x ≡ Ok None) where
    all_judged : cond (has_property s) (Ok s) (Err (NoProperty (length file))) ≡ checked file
    unfolding judge_all
    all_judged =
        let g = hands_of file seen at after x (Ok None) sofar.same hands over in
        sym (ap (rest file s) g.0) ∙ sofar.left

    pub sofar_sound : has_property s ≡ true → Ok s ≡ checked file
    sofar_sound e = sym (ap (λ (t : Bool). cond t (Ok s) (Err (NoProperty (length file)))) e) ∙ all_judged

    pub sofar_without : has_property s ≡ false → Err (NoProperty (length file)) ≡ checked file
    sofar_without e = sym (ap (λ (t : Bool). cond t (Ok s) (Err (NoProperty (length file)))) e) ∙ all_judged

    pub sofar_last : last ≡ last_offset 0 (reading file).items
    unfolding last_offset
    sofar_last =
        let g = hands_of file seen at after x (Ok None) sofar.same hands over in
        sym (ap (λ (q : Reading). last_offset last q.items) g.0) ∙ sofar.ends
