use Rattle.std.proofs.Common.{◌∙◌, inl, inr, ◌≡◌, ◌⊎◌, arith}
use Rattle.property.proofs.SizingNodes.{nothing_size, sequence_below, sequence_size, product_below, product_size, lap_below, lap_size}
use Rattle.property.proofs.listed.Listed.size_of.Goals as goal

both_or_all : {A : Type 0} {x y p q : A} → x ≡ y → (y ≡ p) ⊎ (y ≡ q) → (x ≡ p) ⊎ (x ≡ q)
both_or_all e (inl f) = inl (e ∙ f)
both_or_all e (inr f) = inr (e ∙ f)

pub offset_bounds-sizes-a : goal.offset_bounds-sizes-a
offset_bounds-sizes-a c = let h = sequence_below _ _ _ c.requires.kept c.requires.earlier _ _ (c.requires.next ∙ c.in-Sequence.is) in omega arith

pub bounds-sizes-a : goal.bounds-sizes-a
bounds-sizes-a c = let h = sequence_below _ _ _ c.requires.kept c.requires.earlier _ _ (c.requires.next ∙ c.in-Sequence.is) in omega arith

pub offset_bounds-sizes-b : goal.offset_bounds-sizes-b
offset_bounds-sizes-b c = let h = sequence_below _ _ _ c.requires.kept c.requires.earlier _ _ (c.requires.next ∙ c.in-Sequence.is) in omega arith

pub bounds-sizes-b : goal.bounds-sizes-b
bounds-sizes-b c = let h = sequence_below _ _ _ c.requires.kept c.requires.earlier _ _ (c.requires.next ∙ c.in-Sequence.is) in omega arith

pub offset_bounds-sizes-a-in-Both : goal.offset_bounds-sizes-a-in-Both
offset_bounds-sizes-a-in-Both c = let h = product_below _ _ _ c.requires.kept c.requires.earlier _ _ (both_or_all c.requires.next c.in-Both.is) in omega arith

pub bounds-sizes-a-in-Both : goal.bounds-sizes-a-in-Both
bounds-sizes-a-in-Both c = let h = product_below _ _ _ c.requires.kept c.requires.earlier _ _ (both_or_all c.requires.next c.in-Both.is) in omega arith

pub offset_bounds-sizes-b-in-Both : goal.offset_bounds-sizes-b-in-Both
offset_bounds-sizes-b-in-Both c = let h = product_below _ _ _ c.requires.kept c.requires.earlier _ _ (both_or_all c.requires.next c.in-Both.is) in omega arith

pub bounds-sizes-b-in-Both : goal.bounds-sizes-b-in-Both
bounds-sizes-b-in-Both c = let h = product_below _ _ _ c.requires.kept c.requires.earlier _ _ (both_or_all c.requires.next c.in-Both.is) in omega arith

pub offset_bounds-sizes-a-in-Lap : goal.offset_bounds-sizes-a-in-Lap
offset_bounds-sizes-a-in-Lap c = let h = lap_below _ _ _ c.requires.kept c.requires.earlier _ (c.requires.next ∙ c.in-Lap.is) in omega arith

pub bounds-sizes-a-in-Lap : goal.bounds-sizes-a-in-Lap
bounds-sizes-a-in-Lap c = let h = lap_below _ _ _ c.requires.kept c.requires.earlier _ (c.requires.next ∙ c.in-Lap.is) in omega arith

pub returns-in-Nothing : goal.returns-in-Nothing
returns-in-Nothing c = nothing_size _ _ _ c.requires.kept (c.requires.next ∙ c.in-Nothing.is)

pub returns-in-Sequence : goal.returns-in-Sequence
returns-in-Sequence c = c.sum.ensures ∙ sequence_size _ _ _ c.requires.kept c.requires.earlier _ _ (c.requires.next ∙ c.in-Sequence.is)

pub returns-in-Both : goal.returns-in-Both
returns-in-Both c = c.product.ensures ∙ product_size _ _ _ c.requires.kept c.requires.earlier _ _ (both_or_all c.requires.next c.in-Both.is)

pub returns-in-Lap : goal.returns-in-Lap
returns-in-Lap c = c.max.ensures ∙ lap_size _ _ _ c.requires.kept c.requires.earlier _ (c.requires.next ∙ c.in-Lap.is)
