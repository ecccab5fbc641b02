use Rattle.std.proofs.Common.{ℕ, ◌<◌, List, length, get_or, sym, ap, ◌∙◌, arith}
use Rattle.property.specs.Nodes.{branches}
use Rattle.places.specs.Walks.{target}
use Rattle.places.specs.declared.outcome.Outcome.TheVariants.{Dead}
use Rattle.synthesis.specs.Courses.{bit, checked_nodes}
use Rattle.synthesis.specs.Singles.{ends_at}
use Rattle.synthesis.proofs.Grounding.{few_nodes, node_as, product_as, sequence_names, product_names, lap_names}
use Rattle.synthesis.proofs.Singles.{nothing_none, choice_below, sequence_ones, product_ones, lap_ones, choice_ones}
use Rattle.synthesis.proofs.course.CheckedFile.ones_of.Goals as goal

pub ending_letters-requires : goal.ending_letters-requires
ending_letters-requires c l m e =
    let is = node_as c.args.self.now.file.now c.args.self.now.nodes.now _ _ _ c.node.ensures c.in-Choice.is in
    let h = choice_below c.args.self.now.letters.now (checked_nodes c.args.self.now) c.args.self.now.grounds.sound c.args.n l m _ is (ap (λ (body : List ℕ). target (branches body) l) (sym c.branches_at.ensures) ∙ e) in
    omega (arith, few_nodes c.args.self.now.file.now c.args.self.now.nodes.now, c.requires.within, h)

pub returns-in-Nothing : goal.returns-in-Nothing
returns-in-Nothing c one j h = absurd (nothing_none c.args.self.now.letters.now (checked_nodes c.args.self.now) c.args.self.now.grounds.sound c.args.n (node_as c.args.self.now.file.now c.args.self.now.nodes.now _ _ _ c.node.ensures c.in-Nothing.is) one)

pub returns-in-Choice : goal.returns-in-Choice
returns-in-Choice c one j h =
    let is = node_as c.args.self.now.file.now c.args.self.now.nodes.now _ _ _ c.node.ensures c.in-Choice.is in
    c.ending_letters.ensures.bits j h
    ∙ ap (λ (body : List ℕ). ends_at c.args.starts.now (target (branches body) (get_or c.args.self.now.letters.now j 0))) c.branches_at.ensures
    ∙ choice_ones c.args.self.now.letters.now (checked_nodes c.args.self.now) c.args.self.now.grounds.sound c.args.n _ is one (get_or c.args.self.now.letters.now j 0) c.args.starts.now c.requires.within c.requires.starts

pub returns-in-Sequence : goal.returns-in-Sequence
returns-in-Sequence c one j h =
    let is = node_as c.args.self.now.file.now c.args.self.now.nodes.now _ _ _ c.node.ensures c.in-Sequence.is in
    let f = sequence_names _ _ _ c.args.self.now.grounds _ _ c.node.ensures _ _ c.in-Sequence.is in
    let lt : c.in-Sequence.b < length (checked_nodes c.args.self.now) = omega (arith, f.1, c.requires.within) in
    ap (λ w. bit w j) c.ones_in_sequence.ensures
    ∙ sequence_ones c.args.self.now.letters.now (checked_nodes c.args.self.now) c.args.self.now.grounds.sound c.args.n c.in-Sequence.a c.in-Sequence.b (get_or c.args.self.now.letters.now j 0) j
    (get_or c.args.ones.now c.in-Sequence.a 0) (get_or c.args.ones.now c.in-Sequence.b 0) c.size_at.result (get_or c.args.starts.now c.in-Sequence.b Dead) c.requires.within is c.size_at.ensures
    (c.requires.starts c.in-Sequence.b lt) (λ o. c.requires.kept c.in-Sequence.a f.0 o j h) (λ o. c.requires.kept c.in-Sequence.b f.1 o j h) one

pub returns-in-Both : goal.returns-in-Both
returns-in-Both c one j h =
    let is = product_as c.args.self.now.file.now c.args.self.now.nodes.now _ _ _ _ c.node.ensures c.in-Both.is in
    let f = product_names _ _ _ c.args.self.now.grounds _ _ c.node.ensures _ _ c.in-Both.is in
    product_ones c.args.self.now.letters.now (checked_nodes c.args.self.now) c.args.self.now.grounds.sound c.args.n c.in-Both.a c.in-Both.b (get_or c.args.self.now.letters.now j 0) j
    (get_or c.args.ones.now c.in-Both.a 0) (get_or c.args.ones.now c.in-Both.b 0) c.requires.within is
    (λ o. c.requires.kept c.in-Both.a f.0 o j h) (λ o. c.requires.kept c.in-Both.b f.1 o j h) one

pub returns-in-Lap : goal.returns-in-Lap
returns-in-Lap c one j h =
    let is = node_as c.args.self.now.file.now c.args.self.now.nodes.now _ _ _ c.node.ensures c.in-Lap.is in
    let f = lap_names _ _ _ c.args.self.now.grounds _ _ c.node.ensures _ c.in-Lap.is in
    let lt : c.in-Lap.a < length (checked_nodes c.args.self.now) = omega (arith, f, c.requires.within) in
    ap (λ w. bit w j) c.ones_in_lap.ensures
    ∙ lap_ones c.args.self.now.letters.now (checked_nodes c.args.self.now) c.args.self.now.grounds.sound c.args.n c.in-Lap.a (get_or c.args.self.now.letters.now j 0) j
    (get_or c.args.ones.now c.in-Lap.a 0) (get_or c.args.starts.now c.in-Lap.a Dead) c.requires.within is
    (c.requires.starts c.in-Lap.a lt) (λ o. c.requires.kept c.in-Lap.a f o j h) one
