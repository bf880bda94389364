use Rattle.std.proofs.Common.{◌≡◌, None, replicate}
use Rattle.bl_cut.proofs.network.no_weights.Given as goal

abbrev pub invariant-loop : goal.invariant-loop
invariant-loop l = l.weights.items ≡ replicate l.counter None
