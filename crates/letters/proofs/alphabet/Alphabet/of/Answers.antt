use Rattle.std.proofs.Common.{ap, ◌∙◌, arith, length-drop, length-take}
use Rattle.letters.specs.Alphabets.{lawful}
use Rattle.letters.proofs.Declaring.{few_enough, two_written, makes_alphabet}
use Rattle.letters.proofs.alphabet.Alphabet.of.Goals as goal

pub slice_bounds-copy_from_slice-end : goal.slice_bounds-copy_from_slice-end
slice_bounds-copy_from_slice-end c = simp length-take (omega (arith, few_enough c.args.bytes.now c.requires))

pub copy_from_slice-requires : goal.copy_from_slice-requires
copy_from_slice-requires c = simp length-take (omega (arith, few_enough c.args.bytes.now c.requires))

pub invariant_of-result : goal.invariant_of-result
invariant_of-result c =
    let few = few_enough c.args.bytes.now c.requires in
    let stands = two_written c.copy_from_slice.new.self c.args.bytes.now _ c.copy_from_slice.ensures.after (simp length-drop (omega (arith, few))) in
    record { within = omega (arith, few); ok = ap lawful stands ∙ makes_alphabet c.args.bytes.now c.requires }

pub returns : goal.returns
returns c =
    let few = few_enough c.args.bytes.now c.requires in
    two_written c.copy_from_slice.new.self c.args.bytes.now _ c.copy_from_slice.ensures.after (simp length-drop (omega (arith, few)))
