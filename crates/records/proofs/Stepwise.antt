-- Reading goes on record by record, and what it hands out lies in the file in order.
use Rattle.std.proofs.Common.{◌≡◌, ℕ, zero, suc, ◌+◌, ◌<◌, ◌≤◌, Bool, true, false, cond, ltb, List, length, take, drop, Some, None, Ok, Err, Option, Result, sym, refl, ap, ◌∙◌, subst, add_assoc, arith, length-drop, get_or-drop, drop-drop}
use Rattle.records.specs.declared.fault.ReadFault.{ReadFault}
use Rattle.records.specs.declared.fault.ReadFault.TheVariants.{TooLong}
use Rattle.records.specs.declared.record.Record.{Record}
use Rattle.records.specs.Records.{most_bytes, header_bytes, two_bytes, body_of}
use Rattle.records.specs.Readings.{bytes_of, Found, Over, Holds, Refused, found_in, found_at, Reading, ended, with_item, on_found, read_most, reading_at, Lie, stop_of, Whole}
use Rattle.records.specs.Readers.{item_of, told_record, told, past, Hands}
use Rattle.records.proofs.Found.{facts, Facts, Front}

-- more turns than bytes change nothing
enough_found : (rest : List ℕ) (n m : ℕ) (at : ℕ) → ((k : ℕ) → 0 < k → read_most n (drop k rest) (at + k) ≡ read_most m (drop k rest) (at + k))
    → (x : Found) → on_found (λ k. read_most n (drop k rest) (at + k)) x ≡ on_found (λ k. read_most m (drop k rest) (at + k)) x
enough_found rest n m at ih Over = refl
enough_found rest n m at ih (Refused fault) = refl
enough_found rest n m at ih (Holds i) = ap (with_item i) (ih (bytes_of i) (omega arith))

pub over_found : (rest : List ℕ) (at : ℕ) → length rest ≤ 0 → found_in rest at ≡ Over
unfolding found_in
over_found rest at h = let e : length rest ≡ 0 = omega arith in rw e

pub enough : (n m : ℕ) (rest : List ℕ) (at : ℕ) → length rest ≤ n → length rest ≤ m → read_most n rest at ≡ read_most m rest at
unfolding read_most
enough zero zero rest at h k = refl
enough zero (suc m) rest at h k = sym (ap (on_found (λ k. read_most m (drop k rest) (at + k))) (over_found rest at h))
enough (suc n) zero rest at h k = ap (on_found (λ k. read_most n (drop k rest) (at + k))) (over_found rest at k)
enough (suc n) (suc m) rest at h k =
    enough_found rest n m at (λ j p. enough n m (drop j rest) (at + j) (simp length-drop (omega arith)) (simp length-drop (omega arith))) (found_in rest at)

found_on : (file : List ℕ) (n at : ℕ) → ((k : ℕ) → 0 < k → read_most n (drop k (drop at file)) (at + k) ≡ reading_at file (at + k))
    → (x : Found) → on_found (λ k. read_most n (drop k (drop at file)) (at + k)) x ≡ on_found (λ k. reading_at file (at + k)) x
found_on file n at ih Over = refl
found_on file n at ih (Refused fault) = refl
found_on file n at ih (Holds i) = ap (with_item i) (ih (bytes_of i) (omega arith))

-- reading from an offset on, by what stands there
pub reads_on : (file : List ℕ) (at : ℕ) → reading_at file at ≡ on_found (λ k. reading_at file (at + k)) (found_at file at)
unfolding reading_at found_at read_most
reads_on file at =
    let n : ℕ = length (drop at file) in
    enough n (suc n) (drop at file) at (omega arith) (omega arith)
    ∙ found_on file n at
    (λ k p.
    ap (λ rest. read_most n rest (at + k)) (drop-drop k at file)
    ∙ enough n (length (drop (at + k) file)) (drop (at + k) file) (at + k) (simp length-drop (omega (arith, length-drop at file))) (omega arith))
    (found_in (drop at file) at)

two_drop : (file : List ℕ) (at j : ℕ) → two_bytes (drop at file) j ≡ two_bytes file (at + j)
two_drop file at j = rw (get_or-drop at file j 0, get_or-drop at file (j + 1) 0, ← add_assoc at j 1)

abbrev Lies : List ℕ → ℕ → Reading → Type 0
Lies file at r = Lie file at r.items (stop_of file r.fault)

lies_found : (file : List ℕ) (at : ℕ) (further : ℕ → Reading) → at ≤ length file → ((k : ℕ) → at + k ≤ length file → 0 < k → Lies file (at + k) (further k))
    → (x : Found) → Facts (drop at file) at x → Lies file at (on_found further x)
lies_found file at further h ih Over f = omega (arith, f, length-drop at file)
lies_found file at further h ih (Refused fault) f = f
lies_found file at further h ih (Holds i) f =
    let here : two_bytes (drop at file) 0 ≡ two_bytes file at = two_drop file at 0 ∙ ap (two_bytes file) (omega arith) in (
      f.offset,
      f.kind ∙ two_drop file at 2,
      f.long ∙ here,
      f.part ∙ ap (λ n. take n (drop header_bytes (drop at file))) here ∙ ap (take (two_bytes file at)) (drop-drop header_bytes at file),
      ih (bytes_of i) (omega (arith, f.within, length-drop at file)) (omega arith),
    )

lies : (n : ℕ) (file : List ℕ) (at : ℕ) → at ≤ length file → length (drop at file) ≤ n → Lies file at (read_most n (drop at file) at)
unfolding read_most
lies zero file at h k = omega (arith, length-drop at file)
lies (suc n) file at h k =
    lies_found file at (λ j. read_most n (drop j (drop at file)) (at + j)) h
    (λ j inside p.
    subst (λ rest. Lies file (at + j) (read_most n rest (at + j))) (sym (drop-drop j at file))
    (lies n file (at + j) inside (simp length-drop (omega (arith, length-drop at file)))))
    (found_in (drop at file) at) (facts (drop at file) at)

lies_read : (file : List ℕ) (b : Bool) (r : Reading) → Lies file 0 r → Lies file 0 (cond b (ended (Some TooLong)) r)
lies_read file true r h = refl
lies_read file false r h = h

pub whole_file : (file : List ℕ) → Whole file
unfolding reading_at
whole_file file = lies_read file (ltb most_bytes (length file)) (reading_at file 0) (lies (length file) file 0 (omega arith) (omega arith))

-- an answer of the reader, by what it found
pub hands : (file : List ℕ) (at after : ℕ) (r : Result (Option (Record × ℕ)) ReadFault) → told r ≡ found_at file at → after ≡ past at (found_at file at) → Hands file at r after
unfolding found_at
hands file at after (Err fault) e m = (reads_on file at ∙ ap (on_found (λ k. reading_at file (at + k))) (sym e), m ∙ ap (past at) (sym e))
hands file at after (Ok None) e m = (reads_on file at ∙ ap (on_found (λ k. reading_at file (at + k))) (sym e), m ∙ ap (past at) (sym e))
hands file at after (Ok (Some r)) e m =
    let f : Front (drop at file) at (item_of r) = subst (Facts (drop at file) at) (sym e) (facts (drop at file) at) in
    let moved : after ≡ at + bytes_of (item_of r) = m ∙ ap (past at) (sym e) in
    record {
      next = reads_on file at ∙ ap (on_found (λ k. reading_at file (at + k))) (sym e) ∙ ap (λ n. with_item (item_of r) (reading_at file n)) (sym moved);
      offset = f.offset;
      part = f.part ∙ ap (λ n. take n (drop header_bytes (drop at file))) (sym f.long) ∙ ap (take (length (body_of r.0))) (drop-drop header_bytes at file);
      suited = f.suited;
      moved = moved;
      within = omega (arith, moved, f.within, length-drop at file);
    }

-- a record that was found ends within the file
pub ends_within : (file : List ℕ) (at : ℕ) (r : Record) → told_record at (Ok r) ≡ found_at file at → at + header_bytes + length (body_of r) ≤ length file
unfolding found_at
ends_within file at r e =
    let f : Front (drop at file) at (item_of (r, at)) = subst (Facts (drop at file) at) (sym e) (facts (drop at file) at) in
    omega (arith, f.within, length-drop at file)
