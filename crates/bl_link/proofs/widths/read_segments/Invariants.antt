use Rattle.std.proofs.Common.{take}
use Rattle.std.specs.List.{All}
use Rattle.bl_base.specs.Fits.{AreBytes}
use Rattle.bl_link.proofs.widths.read_segments.Given as goal

abbrev pub invariant-loop-segment : goal.invariant-loop-segment
invariant-loop-segment l = All (λ x. AreBytes x.bytes) (take l.segment-index l.segments)
