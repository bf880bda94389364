use Rattle.std.proofs.Common.{◌↔◌, drop}
use Rattle.std.specs.List.{AllZip}
use Rattle.bl_base.specs.Fits.{ArgumentFits}
use Rattle.bl_base.proofs.start.arguments_fit.Given as goal

-- what is left decides
abbrev pub invariant-loop-i : goal.invariant-loop-i
invariant-loop-i l = AllZip ArgumentFits l.params l.args ↔ AllZip ArgumentFits (drop l.i l.params) (drop l.i l.args)
