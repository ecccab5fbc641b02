use Rattle.std.proofs.Common.{◌≡◌, ℕ, length, subst, arith}
use Rattle.synthesis.specs.Courses.{letters_of}
use Rattle.synthesis.specs.Drawn.{Columned}
use Rattle.synthesis.proofs.Drawing.{columned_none, columned_more}
use Rattle.synthesis.proofs.drawn.columns_of.Goals as goal

pub loop-j-init : goal.loop-j-init
loop-j-init c = columned_none (letters_of c.args.course.now)

pub loop-j-preserved : goal.loop-j-preserved
loop-j-preserved c = columned_more (letters_of c.args.course.now) c.loop-j.columns c.loop-j.j c.args.course.now.checked.grounds.fillable.ascending (omega arith) (omega arith) c.loop-j.invariant

pub returns : goal.returns
returns c =
    let all : c.loop-j.j ≡ length (letters_of c.args.course.now) = omega arith in
    subst (λ (j : ℕ). Columned (letters_of c.args.course.now) c.loop-j.columns j) all c.loop-j.invariant
