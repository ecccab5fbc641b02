use Rattle.std.proofs.Common.{length, refl, arith, le-ltb}
use Rattle.records.specs.Records.{most_bytes}
use Rattle.records.proofs.Stepwise.{whole_file}
use Rattle.records.proofs.reader.Reader.open.Goals as goal

pub returns : goal.returns
returns c = record { opened = (refl, refl, rw (le-ltb most_bytes (length c.args.file.now) (omega arith))); whole = whole_file c.args.file.now }
