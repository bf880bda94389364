use Rattle.std.proofs.Common.{◌≡◌, true}
use Rattle.std.specs.Prelude.{if◌then◌else◌, unwrap_or}
use Rattle.bl_base.specs.Sums.{sum_below}
use Rattle.bl_program.specs.Sites.{site_weight}
use Rattle.bl_iface.proofs.limits.weight_of.Given as goal

abbrev pub invariant-loop-at : goal.invariant-loop-at
invariant-loop-at l = l.total ≡ sum_below l.at (λ s. if true then unwrap_or (site_weight l.fn.program s) 0 else 0)
