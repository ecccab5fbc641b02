use Rattle.std.proofs.Common.{◌+◌, ◌<◌, Bool, false, refl, ap, ◌∙◌, arith, rules}
use Rattle.std.proofs.lemmas.List.{get_or-take, length-set, length-take}
use Rattle.property.specs.Checks.{most_nodes}
use Rattle.property.specs.Sizes.{total}
use Rattle.synthesis.proofs.Belonging.{written_fits, written_more, written_skip}
use Rattle.synthesis.proofs.Grounding.{few_nodes}
use Rattle.synthesis.proofs.course.Course.offsets.Goals as goal
use Rattle.synthesis.proofs.course.Course.offsets.Goals.{then-is_member, else-is_member}

pub loop-m-init : goal.loop-m-init
unfolding total
loop-m-init c = record { written = (refl, λ k h. absurd (omega arith)); long = search rules }

pub overflow_add-total : goal.overflow_add-total
overflow_add-total c =
    let h : c.loop-m.m < c.args.n + 1 = omega (arith, c.loop-m-test.true, length-take {A = Bool} (c.args.n + 1) c.mark_family.new.marked) in
    let e = get_or-take (c.args.n + 1) c.mark_family.new.marked c.loop-m.m false h ∙ c.mark_family.ensures c.loop-m.m (omega (arith, few_nodes c.args.self.now.checked.file.now c.args.self.now.checked.nodes.now, c.requires.within)) in
    omega (arith, c.places_of-total.ensures, written_fits _ _ c.requires _ _ _ c.loop-m.invariant.written _ e c.if-is_member.true)

pub loop-m-preserved : goal.loop-m-preserved
loop-m-preserved c =
    let v = c.loop-m.invariant in
    let h : c.loop-m.m < c.args.n + 1 = omega (arith, c.loop-m-test.true, length-take {A = Bool} (c.args.n + 1) c.mark_family.new.marked) in
    let few : c.loop-m.m < most_nodes = omega (arith, few_nodes c.args.self.now.checked.file.now c.args.self.now.checked.nodes.now, c.requires.within) in
    let e = get_or-take (c.args.n + 1) c.mark_family.new.marked c.loop-m.m false h ∙ c.mark_family.ensures c.loop-m.m few in
    record {
      written = elim c.if-is_member.branch [
        | then-is_member w ↦
            let r = written_more _ _ c.requires _ _ _ v.written _ e w.if-is_member.true (omega (arith, v.long)) in
            (w.total-is ∙ ap (λ x. c.loop-m.total + x) w.places_of-total.ensures ∙ r.0, r.1)
        | else-is_member w ↦
            let r = written_skip _ _ c.requires _ _ _ v.written _ e w.if-is_member.false (omega (arith, v.long)) in
            (w.total-is ∙ r.0, r.1)
      ];
      long = length-set c.loop-m.offsets c.loop-m.m c.loop-m.total ∙ v.long;
    }
