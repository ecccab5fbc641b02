-- A list of which a part was written: the elements before the part and in it, and the length.
use Rattle.std.proofs.Common.{◌≡◌, ℕ, ◌+◌, ◌-◌, ◌<◌, ◌≤◌, List, ◌++◌, length, get_or, take, drop, ap, ◌∙◌, arith, length-append, length-drop}
use Rattle.std.proofs.lemmas.List.{get_or_append_left, get_or-append_right, get_or-take, length-take-le}
use borrow.Rule.Slice.PartMut.{put_mid, post_of}

module _ (xs ys : List ℕ) (a k : ℕ) where
  pub before_part : (i d : ℕ) → i < a → a ≤ length xs → get_or (put_mid a k xs ys) i d ≡ get_or xs i d
  before_part i d h l = get_or_append_left (take a xs) (ys ++ post_of a k xs) d i (omega (arith, length-take-le a xs l)) ∙ get_or-take a xs i d h

  pub in_part : (j d : ℕ) → j < length ys → a ≤ length xs → get_or (put_mid a k xs ys) (a + j) d ≡ get_or ys j d
  in_part j d h l =
      let z : a + j - a ≡ j = omega arith in
      get_or-append_right (take a xs) (ys ++ post_of a k xs) a (a + j) d (length-take-le a xs l) (omega arith)
      ∙ ap (λ (n : ℕ). get_or (ys ++ post_of a k xs) n d) z
      ∙ get_or_append_left ys (post_of a k xs) d j h

  pub length_part : a + k ≤ length xs → length ys ≡ k → length (put_mid a k xs ys) ≡ length xs
  length_part h e = omega (arith, length-append (take a xs) (ys ++ post_of a k xs), length-append ys (post_of a k xs), length-take-le a xs (omega arith), length-drop k (drop a xs), length-drop a xs)
