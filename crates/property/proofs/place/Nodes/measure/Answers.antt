use Rattle.std.proofs.Common.{refl, take, length-set, ◌≡◌, length, sym, ap, ◌∙◌, arith, length-take-le}
use Rattle.std.proofs.lemmas.List.{length-map}
use Rattle.property.specs.Meant.{meant, all_meant, listed}
use Rattle.property.specs.Placed.{nodes_in, sizes_of}
use Rattle.property.specs.Sized.{cut}
use Rattle.property.specs.Sizes.{size}
use Rattle.property.proofs.Measuring.{measured}
use Rattle.property.proofs.SizingNodes.{kept_first, kept_more}
use Rattle.property.proofs.place.Nodes.measure.Goals as goal

pub loop-n-init : goal.loop-n-init
loop-n-init c = record { long = refl; kept = λ m h. absurd (omega arith) }

pub size_of-requires-clause-kept : goal.size_of-requires-clause-kept
size_of-requires-clause-kept c = kept_first _ _ _ (omega (arith, c.listed-listed.result.few)) c.loop-n.invariant.kept

pub loop-n-preserved : goal.loop-n-preserved
loop-n-preserved c = record {
  long = length-set c.loop-n.sizes c.loop-n.n c.size_of.result ∙ c.loop-n.invariant.long;
  kept = kept_more _ _ _ _ (omega (arith, c.listed-listed.result.few))
      (c.size_of.ensures ∙ ap (λ n. cut (size (listed c.listed-listed.result) n)) (length-take-le c.loop-n.n c.loop-n.sizes (omega (arith, c.listed-listed.result.few)))) c.loop-n.invariant.kept;
}

pub returns-clause-sizes : goal.returns-clause-sizes
returns-clause-sizes c =
    let stands : c.loop-n.n ≡ length c.listed-listed.result.nodes.now = omega arith in
    let count : c.args.self.now.count ≡ c.loop-n.n = sym c.listed-listed.ensures.len ∙ sym stands in
    ap (λ n. take n c.loop-n.sizes) count
    ∙ measured (listed c.listed-listed.result) c.loop-n.sizes c.loop-n.n (stands ∙ sym (length-map c.listed-listed.result.nodes.now (meant c.listed-listed.result.file.now))) (omega (arith, c.listed-listed.result.few)) c.loop-n.invariant.kept
    ∙ ap (λ ns. sizes_of (all_meant c.listed-listed.result.file.now ns)) c.listed-listed.ensures.nodes
    ∙ ap (λ file. sizes_of (nodes_in file c.args.self.now)) c.listed-listed.ensures.file
