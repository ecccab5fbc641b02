use Rattle.rules.proofs.Spans.{spans}
use Rattle.rules.proofs.theorems.spans_stand.Goals as goal

pub returns : goal.returns
returns c = spans
