use Rattle.std.proofs.Common.{take}
use Rattle.std.specs.List.{All}
use Rattle.bl_link.specs.Linkable.{IsSound}
use Rattle.bl_link.proofs.widths.check_parts.Given as goal

abbrev pub invariant-loop-part : goal.invariant-loop-part
invariant-loop-part l = All IsSound (take l.part-index l.parts)
