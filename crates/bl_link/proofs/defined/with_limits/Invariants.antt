use Rattle.std.proofs.Common.{◌≡◌, ◌++◌, drop}
use Rattle.bl_link.proofs.defined.with_limits.Given as goal

abbrev pub invariant-loop-limits : goal.invariant-loop-limits
invariant-loop-limits l = l.all ++ drop l.limits-index l.defined ≡ l.fn.before ++ l.fn.defined
