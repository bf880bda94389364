use Rattle.std.proofs.Common.{◌≡◌, ◌++◌, length, map, reverse}
use Rattle.bl_base.specs.Runs.{memory_of}
use Rattle.bl_memory.proofs.spaces.Spaces.into_pages.Given as goal

abbrev pub invariant-loop-space : goal.invariant-loop-space
invariant-loop-space l = l.cells.items ++ map memory_of (reverse l.pages.items) ≡ l.fn.self

abbrev pub decreases-loop-space : goal.decreases-loop-space
decreases-loop-space l = length l.cells.items
