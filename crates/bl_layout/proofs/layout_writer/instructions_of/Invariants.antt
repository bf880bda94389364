use Rattle.std.proofs.Common.{◌≡◌, ◌++◌, drop, slice_index}
use Rattle.bl_layout.specs.Blocks.{blocks_from}
use Rattle.bl_layout.proofs.layout_writer.instructions_of.Given as goal

abbrev pub invariant-loop-position : goal.invariant-loop-position
invariant-loop-position l =
    l.code.items ++ blocks_from l.layout.parts.now (slice_index l.targets) l.position (drop l.position l.layout.parts.now.commands)
    ≡ blocks_from l.layout.parts.now (slice_index l.targets) 0 l.layout.parts.now.commands
