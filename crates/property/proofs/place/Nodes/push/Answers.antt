use Rattle.std.proofs.Common.{arith}
use Rattle.std.proofs.lemmas.List.{take_more_set}
use Rattle.property.proofs.place.Nodes.push.Goals as goal

pub returns : goal.returns
returns c =
    record {
      nodes = take_more_set c.args.self.now.nodes c.args.self.now.count c.args.node (omega arith);
      closing = take_more_set c.args.self.now.closing c.args.self.now.count c.args.closes (omega arith);
    }
