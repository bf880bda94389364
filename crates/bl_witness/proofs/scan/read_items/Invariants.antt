use Rattle.std.proofs.Common.{◌≤◌, length}
use Rattle.json.specs.Json.{value}
use Rattle.bl_witness.specs.Shapes.{each_item}
use Rattle.bl_witness.proofs.Arrays.{ItemsLeft, joined}
use Rattle.bl_witness.proofs.scan.read_items.Given as goal

abbrev pub invariant-items : goal.invariant-items
invariant-items g l =
    ItemsLeft (each_item g.T.Shape.shape) (joined g.T.Shape.shape l.found) (value l.depth) l.initial.reader l.reader × (length l.reader ≤ length l.initial.reader)

abbrev pub decreases-items : goal.decreases-items
decreases-items g l = length l.reader
