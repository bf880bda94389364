use Rattle.std.proofs.Common.{◌≡◌, ◌++◌, map, drop}
use Rattle.bl_link.specs.OwnNames.{own}
use Rattle.bl_link.proofs.names.own_names.Given as goal

abbrev pub invariant-loop-entry : goal.invariant-loop-entry
invariant-loop-entry l = l.names ++ map (own l.spaces) (drop l.entry-index l.entries) ≡ map (own l.spaces) l.fn.entries
