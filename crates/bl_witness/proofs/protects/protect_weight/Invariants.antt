use Rattle.std.proofs.Common.{◌≡◌}
use Rattle.std.specs.Prelude.{if◌then◌else◌, unwrap_or}
use Rattle.bl_base.specs.Sums.{sum_below}
use Rattle.bl_program.specs.Sites.{is_protected, site_weight}
use Rattle.bl_witness.proofs.protects.protect_weight.Given as goal

abbrev pub invariant-loop-at : goal.invariant-loop-at
invariant-loop-at l = l.total ≡ sum_below l.at (λ s. if is_protected l.fn.program s then unwrap_or (site_weight l.fn.program s) 0 else 0)
