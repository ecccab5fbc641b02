-- Which nodes close does not change when a node is put after the others.
use Rattle.std.proofs.Common.{◌≡◌, ℕ, ◌+◌, ◌<◌, ◌≤◌, Bool, true, false, ◌&&◌, ◌||◌, eqb, ltb, List, [], ◌∷◌, ◌++◌, map, length, get_or, sym, refl, ap, ◌∙◌, subst, inl, inr, arith}
use mathlib.Core.Path.{fun_ext}
use Rattle.std.specs.List.{range_with_len}
use Rattle.std.proofs.lemmas.List.FromFn.{length-map-range_with_len, get_or-map-range_with_len, map-range_with_len_more, fill_by_all}
use Rattle.std.proofs.lemmas.List.{get_or_append_left, get_or_push, get_or_past, length_push}
use Rattle.std.proofs.lemmas.Bool.{and_parts, and_from, ltb-true, lt-ltb}
use Rattle.letters.specs.Letters.{end}
use Rattle.property.specs.Checks.{names, named_earlier}
use Rattle.std.specs.List.{list_all}
use Rattle.property.specs.Closing.{closes, closes_by, each_closes}
use Rattle.property.specs.Drafts.{AllNamed}
use Rattle.property.specs.Nodes.{Node, Nothing, Choice, Sequence, Both, Lap, All, node, is_nothing}
use Rattle.property.specs.Numbered.{before}
use Rattle.property.specs.Placed.{closings}
use Rattle.property.proofs.Numbering.{before_same, before_lt, before_ge, lt_or_ge, by_number_is, from_earlier}

pub all_weaker : (P Q : ℕ → Bool) → ((m : ℕ) → P m ≡ true → Q m ≡ true) → (ms : List ℕ) → list_all P ms ≡ true → list_all Q ms ≡ true
all_weaker P Q h [] e = refl
all_weaker P Q h (m ∷ ms) e =
    let p = and_parts (P m) (list_all P ms) e in
    and_from (Q m) (list_all Q ms) (h m p.0) (all_weaker P Q h ms p.1)

-- closing looks at the nodes named alone
module _ (ns ms : List Node) (f : ℕ → Bool) (k : ℕ) (same : (m : ℕ) → m < k → node ns m ≡ node ms m) where
  each_same : (bs : List (ℕ × ℕ)) → list_all (λ m. ltb m k) (names (Choice bs)) ≡ true → each_closes ns f bs ≡ each_closes ms f bs
  unfolding each_closes
  each_same [] e = refl
  each_same (b ∷ bs) e =
      let p = and_parts (ltb b.1 k) (list_all (λ m. ltb m k) (names (Choice bs))) e in
      ap (λ (x : Node). (f b.1 || (eqb b.0 end && is_nothing x)) && each_closes ns f bs) (same b.1 (ltb-true b.1 k p.0))
      ∙ ap (λ (t : Bool). (f b.1 || (eqb b.0 end && is_nothing (node ms b.1))) && t) (each_same bs p.1)

  by_same : (x : Node) → list_all (λ m. ltb m k) (names x) ≡ true → closes_by ns f x ≡ closes_by ms f x
  by_same Nothing e = refl
  by_same (Choice bs) e = each_same bs e
  by_same (Sequence a b) e = refl
  by_same (Both a b) e = refl
  by_same (Lap a) e = refl
  by_same (All a b) e = refl

-- where `closing` says so of the earlier nodes
abbrev at_node : List Node → (ℕ → Bool) → ℕ → Bool
at_node ns closing n = closes_by ns closing (node ns n)

module _ (ns more : List Node) (named : AllNamed ns) where
  earlier_same : (n : ℕ) → ((m : ℕ) → m < n → m < length ns → closes (ns ++ more) m ≡ closes ns m) → n < length ns → closes (ns ++ more) n ≡ closes ns n
  earlier_same n ih l =
      by_number_is false (at_node (ns ++ more)) n
      ∙ ap (λ (x : Node). closes_by (ns ++ more) (before false n (λ m. closes (ns ++ more) m)) x) (get_or_append_left ns more Nothing n l)
      ∙ ap (λ (f : ℕ → Bool). closes_by (ns ++ more) f (node ns n)) (before_same false (λ m. closes (ns ++ more) m) (λ m. closes ns m) n (λ m h. ih m h (omega arith)))
      ∙ by_same (ns ++ more) ns (before false n (λ m. closes ns m)) (length ns) (λ m h. get_or_append_left ns more Nothing m h) (node ns n) (named n l)
      ∙ sym (by_number_is false (at_node ns) n)

  -- a node closes as before where nodes are put after it
  pub closes_before : (n : ℕ) → n < length ns → closes (ns ++ more) n ≡ closes ns n
  closes_before n l = from_earlier (λ n. n < length ns → closes (ns ++ more) n ≡ closes ns n) earlier_same n l

module _ (ns : List Node) (x : Node) (named : AllNamed ns) (earlier : named_earlier ns x ≡ true) where
  last_closes : closes (ns ++ x ∷ []) (length ns) ≡ closes_by ns (before false (length ns) (λ m. closes ns m)) x
  last_closes =
      by_number_is false (at_node (ns ++ x ∷ [])) (length ns)
      ∙ ap (λ (y : Node). closes_by (ns ++ x ∷ []) (before false (length ns) (λ m. closes (ns ++ x ∷ []) m)) y) (get_or_push ns x Nothing (length ns) refl)
      ∙ ap (λ (f : ℕ → Bool). closes_by (ns ++ x ∷ []) f x) (before_same false (λ m. closes (ns ++ x ∷ []) m) (λ m. closes ns m) (length ns) (λ m h. closes_before ns (x ∷ []) named m h))
      ∙ by_same (ns ++ x ∷ []) ns (before false (length ns) (λ m. closes ns m)) (length ns) (λ m h. get_or_append_left ns (x ∷ []) Nothing m h) x earlier

pub closing_at : (ns : List Node) (m : ℕ) → m < length ns → get_or (closings ns) m false ≡ closes ns m
unfolding closings
closing_at ns m l = get_or-map-range_with_len (λ n. closes ns n) 0 (length ns) m m false l (omega arith)

pub length_closings : (ns : List Node) → length (closings ns) ≡ length ns
unfolding closings
length_closings ns = length-map-range_with_len (λ n. closes ns n) 0 (length ns)

stored_closing : (ns : List Node) → (λ m. get_or (closings ns) m false) ≡ before false (length ns) (λ m. closes ns m)
stored_closing ns =
    fun_ext (λ m. elim (lt_or_ge m (length ns)) [
      | inl l ↦ closing_at ns m l ∙ sym (before_lt false (length ns) (λ m. closes ns m) m l)
      | inr l ↦ get_or_past (closings ns) m false (let e : length (closings ns) ≡ length ns = length_closings ns in omega arith) ∙ sym (before_ge false (length ns) (λ m. closes ns m) m l)
    ])

counting_same : (f g : ℕ → Bool) (n : ℕ) → ((k : ℕ) → k < n → f k ≡ g k) → map f (range_with_len 0 n) ≡ map g (range_with_len 0 n)
counting_same f g n h =
    fill_by_all g (map f (range_with_len 0 n)) n false (length-map-range_with_len f 0 n) (λ k l. get_or-map-range_with_len f 0 n k k false l (omega arith) ∙ h k l)

closings_split : (ns : List Node) (x : Node) → AllNamed ns → closings (ns ++ x ∷ []) ≡ closings ns ++ closes (ns ++ x ∷ []) (length ns) ∷ []
unfolding closings
closings_split ns x named =
    ap (λ (n : ℕ). map (λ m. closes (ns ++ x ∷ []) m) (range_with_len 0 n)) (length_push ns x)
    ∙ map-range_with_len_more (λ m. closes (ns ++ x ∷ []) m) 0 (length ns) (length ns) (omega arith)
    ∙ ap (λ (bs : List Bool). bs ++ closes (ns ++ x ∷ []) (length ns) ∷ []) (counting_same (λ m. closes (ns ++ x ∷ []) m) (λ m. closes ns m) (length ns) (λ k l. closes_before ns (x ∷ []) named k l))

-- one node more
pub closings_more : (ns : List Node) (x : Node) → AllNamed ns → named_earlier ns x ≡ true
    → closings (ns ++ x ∷ []) ≡ closings ns ++ closes_by ns (λ m. get_or (closings ns) m false) x ∷ []
closings_more ns x named earlier =
    closings_split ns x named
    ∙ ap (λ (b : Bool). closings ns ++ b ∷ []) (last_closes ns x named earlier ∙ ap (λ (f : ℕ → Bool). closes_by ns f x) (sym (stored_closing ns)))

wider : (k l : ℕ) (x : Node) → k ≤ l → list_all (λ m. ltb m k) (names x) ≡ true → list_all (λ m. ltb m l) (names x) ≡ true
wider k l x h e = all_weaker (λ m. ltb m k) (λ m. ltb m l) (λ m p. lt-ltb m l (let q : m < k = ltb-true m k p in omega arith)) (names x) e

named_at : (ns : List Node) (x : Node) → AllNamed ns → named_earlier ns x ≡ true → (n : ℕ) → n < length ns + 1 → list_all (λ m. ltb m (length ns + 1)) (names (node (ns ++ x ∷ []) n)) ≡ true
named_at ns x named earlier n l = elim (lt_or_ge n (length ns)) [
  | inl h ↦ ap (λ (y : Node). list_all (λ m. ltb m (length ns + 1)) (names y)) (get_or_append_left ns (x ∷ []) Nothing n h) ∙ wider (length ns) (length ns + 1) (node ns n) (omega arith) (named n h)
  | inr h ↦ ap (λ (y : Node). list_all (λ m. ltb m (length ns + 1)) (names y)) (get_or_push ns x Nothing n (let e : length ns ≡ n = omega arith in e)) ∙ wider (length ns) (length ns + 1) x (omega arith) earlier
]

pub named_more : (ns : List Node) (x : Node) → AllNamed ns → named_earlier ns x ≡ true → AllNamed (ns ++ x ∷ [])
named_more ns x named earlier =
    let P : ℕ → Type 0 = λ k. (n : ℕ) → n < k → list_all (λ m. ltb m k) (names (node (ns ++ x ∷ []) n)) ≡ true in
    subst P (sym (length_push ns x)) (named_at ns x named earlier)
