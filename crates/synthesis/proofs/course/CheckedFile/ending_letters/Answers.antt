use Rattle.std.proofs.Common.{ℕ, ◌+◌, Bool, get_or, ◌∙◌, sym, subst, arith}
use Rattle.property.specs.Nodes.{branches}
use Rattle.places.specs.Walks.{target}
use Rattle.synthesis.specs.Singles.{ends_at}
use Rattle.synthesis.proofs.Bitwise.{Told, told_set, told_skip}
use Rattle.synthesis.proofs.course.CheckedFile.ending_letters.Goals as goal
use Rattle.synthesis.proofs.course.CheckedFile.ending_letters.Goals.{then-is_ending, else-is_ending}

pub loop-j-preserved : goal.loop-j-preserved
loop-j-preserved c =
    let ends : ℕ → Bool = λ k. ends_at c.args.starts.now (target (branches c.args.body.now) (get_or c.args.self.now.letters.now k 0)) in
    elim c.if-is_ending.branch [
      | then-is_ending w ↦
          subst (λ bits. Told ends bits (c.loop-j.j + 1)) (sym w.bits-is)
          (told_set ends c.loop-j.bits c.loop-j.j c.loop-j.invariant (omega (arith, c.args.self.now.grounds.few_letters)) (sym c.is_ending.ensures ∙ w.if-is_ending.true))
      | else-is_ending w ↦
          subst (λ bits. Told ends bits (c.loop-j.j + 1)) (sym w.bits-is)
          (told_skip ends c.loop-j.bits c.loop-j.j c.loop-j.invariant (sym c.is_ending.ensures ∙ w.if-is_ending.false))
    ]
