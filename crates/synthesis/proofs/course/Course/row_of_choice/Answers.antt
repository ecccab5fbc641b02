use Rattle.std.proofs.Common.{get_or, ◌∙◌, arith, length-set}
use Rattle.places.specs.declared.outcome.Outcome.TheVariants.{Dead}
use Rattle.property.specs.Nodes.{branches}
use Rattle.synthesis.specs.Courses.{course, letters_of, nodes_of}
use Rattle.synthesis.proofs.Belonging.{choice_at, set_more, stands, whole_of_other}
use Rattle.synthesis.proofs.course.Course.row_of_choice.Goals as goal

pub node-requires : goal.node-requires
node-requires c = (stands _ _ _ c.requires.place c.requires.choice _ _ c.member_at-m.ensures).within

pub entered_by-requires : goal.entered_by-requires
entered_by-requires c =
    let s = stands _ _ _ c.requires.place c.requires.choice _ _ c.member_at-m.ensures in
    s.names (branches c.branches_at-body.result.now) (choice_at c.args.self.now c.member_at-m.result.0 _ c.node.ensures _ _ c.branches_at-body.result.now c.in-Choice.is c.branches_at-body.ensures) (get_or (letters_of c.args.self.now) c.loop-j.j 0)

pub loop-j-preserved : goal.loop-j-preserved
loop-j-preserved c =
    let s = stands _ _ _ c.requires.place c.requires.choice _ _ c.member_at-m.ensures in (
      set_more Dead (λ k. (course (nodes_of c.args.self.now) c.args.n).step c.args.place (get_or (letters_of c.args.self.now) k 0)) c.loop-j.out c.loop-j.j c.entered_by.result
          (omega (arith, c.args.self.now.checked.grounds.few_letters, c.loop-j.invariant.1)) c.loop-j.invariant.0
          (s.leads _ c.offsets-offsets.ensures (branches c.branches_at-body.result.now) (choice_at c.args.self.now c.member_at-m.result.0 _ c.node.ensures _ _ c.branches_at-body.result.now c.in-Choice.is c.branches_at-body.ensures) (get_or (letters_of c.args.self.now) c.loop-j.j 0) c.entered_by.result c.entered_by.ensures),
      length-set c.loop-j.out c.loop-j.j c.entered_by.result ∙ c.loop-j.invariant.1,
    )

pub returns-in_default : goal.returns-in_default
returns-in_default c =
    let s = stands _ _ _ c.requires.place c.requires.choice _ _ c.member_at-m.ensures in
    s.whole (whole_of_other c.args.self.now c.member_at-m.result.0 _ c.node.ensures c.in_default.not-Choice)
