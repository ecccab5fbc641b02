use Rattle.std.proofs.Common.{◌<◌, arith}
use Rattle.std.proofs.lemmas.List.{take_more_set}
use Rattle.letters.specs.Alphabets.{most_declared}
use Rattle.property.proofs.Lettering.{room, still_lawful}
use Rattle.property.proofs.declared.Declared.push.Goals as goal

pub invariant_of-self : goal.invariant_of-self
invariant_of-self c =
    let r : c.args.self.now.count < most_declared = room c.args.self.now.letters c.args.self.now.count c.args.byte (omega arith) c.requires in
    record { few = omega arith; ok = still_lawful c.args.self.now.letters c.args.self.now.count c.args.byte (omega arith) c.args.self.now.ok c.requires }

pub returns : goal.returns
returns c =
    let r : c.args.self.now.count < most_declared = room c.args.self.now.letters c.args.self.now.count c.args.byte (omega arith) c.requires in
    take_more_set c.args.self.now.letters c.args.self.now.count c.args.byte (omega arith)
