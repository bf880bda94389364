use Rattle.std.proofs.Common.{◌+◌}
use Rattle.bl_base.specs.Quantity.{limit_of}
use Rattle.bl_job.specs.Refusals.{limit}
use Rattle.bl_job.proofs.CarryLemmas.{told_said}
use Rattle.bl_job.proofs.fetch.too_long.Goals as goal

pub returns : goal.returns
returns g c =
    told_said (limit c.args.which (limit_of c.args.which + 1)) c.limit.result _ _ c.refuse.result (rw c.limit-value.ensures at c.limit.ensures) c.refuse.ensures
