use Rattle.std.proofs.Common.{◌*◌, ◌<◌, ◌^◌, length, refl, ap, take, ◌∙◌, arith}
use Rattle.records.specs.Records.{branch_bytes}
use Rattle.property.proofs.Branching.{bytes_from, first_bytes}
use Rattle.property.proofs.branches.branches_at.Goals as goal

pub returns : goal.returns
returns c =
    let short : length c.unwrap_or-rest.result.now < 2 ^ 64 = omega arith in
    first_bytes c.unwrap_or-rest.result.now c.min.result (branch_bytes * c.args.count) (omega (arith, c.min.ensures, c.saturating_mul.ensures))
    ∙ ap (take (branch_bytes * c.args.count)) (bytes_from _ _ _ _ _ c.unwrap_or-rest.ensures refl c.get.ensures.lookup.0)
