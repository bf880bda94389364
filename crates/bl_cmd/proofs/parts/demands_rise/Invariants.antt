use Rattle.std.specs.List.{AllAdjacentBelow}
use Rattle.bl_program.specs.Rules.{Precedes}
use Rattle.bl_cmd.proofs.parts.demands_rise.Given as goal

abbrev pub invariant-loop-i : goal.invariant-loop-i
invariant-loop-i l = AllAdjacentBelow (Precedes) l.demands l.i
