use Rattle.std.proofs.Common.{arith}
use Rattle.synthesis.proofs.Grounding.{size_count, size_read}
use Rattle.synthesis.proofs.course.CheckedFile.size_at.Goals as goal

pub bounds-sizes-n : goal.bounds-sizes-n
bounds-sizes-n c = omega (arith, size_count _ _ _ c.args.self.now.grounds _ c.sizes.ensures, c.requires)

pub returns : goal.returns
returns c = size_read _ _ _ c.args.self.now.grounds _ _ c.sizes.ensures c.requires
