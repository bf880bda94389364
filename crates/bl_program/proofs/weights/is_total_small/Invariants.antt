use Rattle.std.proofs.Common.{◌≡◌, ◌<◌, ◌^◌, min}
use Rattle.std.specs.Prelude.{unwrap_or}
use Rattle.bl_base.specs.Sums.{sum_below}
use Rattle.bl_program.specs.Sites.{site_weight}
use Rattle.bl_program.proofs.weights.is_total_small.Given as goal

abbrev pub invariant-loop-at : goal.invariant-loop-at
invariant-loop-at l = record {
  small : l.total < 2 ^ 63;
  is : l.total ≡ sum_below l.at (λ s. min (unwrap_or (site_weight l.parts s) 0) (2 ^ 63));
}
