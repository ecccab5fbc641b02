-- What stands at an offset, case by case.
use Rattle.std.proofs.Common.{◌≡◌, ℕ, ◌+◌, ◌-◌, ◌<◌, ◌≤◌, Bool, true, false, cond, eqb, ltb, List, length, take, drop, refl, arith, length-drop, drop_of_length-le, length-take, take_all, ltb-false, le-ltb, lt-ltb, ne_eqb, eqb-true}
use Rattle.records.specs.declared.fault.ReadFault.TheVariants.{CutOff}
use Rattle.records.specs.Faults.{read_report}
use Rattle.records.specs.Records.{two_bytes, header_bytes, is_kind, suits}
use Rattle.records.specs.Readings.{Item, bytes_of, Found, Over, Holds, Refused, found_in, found_at, judged}

-- what a slice from an index on holds
pub from_on : (at : ℕ) (bytes : List ℕ) → take (length bytes - at) (drop at bytes) ≡ drop at bytes
from_on at bytes = take_all _ (drop at bytes) (simp length-drop (omega arith))

pub over : (file : List ℕ) (at : ℕ) → length file ≤ at → found_at file at ≡ Over
unfolding found_at found_in
over file at h = rw (drop_of_length-le file h)

pub cut : (rest : List ℕ) (at : ℕ) → 0 < length rest → length rest < header_bytes + two_bytes rest 0 → found_in rest at ≡ Refused (CutOff at)
unfolding found_in
cut rest at h k =
    let n : (length rest ≡ 0) → ⊥ = λ z. omega arith in
    rw (ne_eqb (length rest) 0 n, lt-ltb (length rest) (header_bytes + two_bytes rest 0) k)

pub uncut : (rest : List ℕ) (at : ℕ) → 0 < length rest → header_bytes + two_bytes rest 0 ≤ length rest
    → found_in rest at ≡ judged (two_bytes rest 2) (take (two_bytes rest 0) (drop header_bytes rest)) at
unfolding found_in
uncut rest at h k =
    let n : (length rest ≡ 0) → ⊥ = λ z. omega arith in
    rw (ne_eqb (length rest) 0 n, le-ltb (length rest) (header_bytes + two_bytes rest 0) k)

-- what a record found at the front of the bytes is
pub record Front (rest : List ℕ) (at : ℕ) (i : Item) : Type 0 where
  pub offset : i.offset ≡ at
  pub kind : i.kind ≡ two_bytes rest 2
  pub long : length i.body ≡ two_bytes rest 0
  pub part : i.body ≡ take (two_bytes rest 0) (drop header_bytes rest)
  pub within : bytes_of i ≤ length rest
  pub suited : suits i.kind (length i.body) ≡ true

abbrev pub Facts : List ℕ → ℕ → Found → Type 0
Facts rest at Over = length rest ≡ 0
Facts rest at (Holds i) = Front rest at i
Facts rest at (Refused fault) = at ≡ (read_report fault).offset

by_test : (b : Bool) (P : Found → Type 0) (x y : Found) → (b ≡ true → P x) → (b ≡ false → P y) → P (cond b x y)
by_test true P x y yes_way no_way = yes_way refl
by_test false P x y yes_way no_way = no_way refl

pub facts : (rest : List ℕ) (at : ℕ) → Facts rest at (found_in rest at)
unfolding found_in
facts rest at =
    by_test (eqb (length rest) 0) (Facts rest at) _ _
    (λ e. eqb-true (length rest) 0 e)
    (λ e. by_test (ltb (length rest) (header_bytes + two_bytes rest 0)) (Facts rest at) _ _
    (λ f. refl)
    (λ f.
    let body : List ℕ = take (two_bytes rest 0) (drop header_bytes rest) in
    let inside : header_bytes + two_bytes rest 0 ≤ length rest = ltb-false (length rest) (header_bytes + two_bytes rest 0) f in
    let long : length (take (two_bytes rest 0) (drop header_bytes rest)) ≡ two_bytes rest 0 = simp (length-take, length-drop) (omega arith) in
    by_test (is_kind (two_bytes rest 2)) (Facts rest at) _ _
    (λ g. by_test (suits (two_bytes rest 2) (length body)) (Facts rest at) _ _
    (λ s. record { offset = refl; kind = refl; long = long; part = refl; within = omega arith; suited = s })
    (λ s. refl))
    (λ g. refl)))
