-- The memories before the first step.
use Rattle.std.specs.Prelude.{◌≡◌, ◌+◌, ◌*◌, ◌≤◌, List, length, Some, slice_get}
use Rattle.std.specs.List.{AllZip}
use Rattle.bl_base.specs.Runs.{MemoryState}
use Rattle.bl_base.specs.declared.start.Patch.{Patch}
use Rattle.bl_program.specs.declared.definitions.MemoryDef.{MemoryDef}

-- a memory has the bytes of its first pages
pub record IsSized (memory : MemoryDef) (state : MemoryState) : Type 0 where
  pub len : length state.bytes ≡ memory.pages * 65536

abbrev pub AreSized : List MemoryDef → List MemoryState → Type 0
AreSized memories states = AllZip IsSized memories states

-- a patch lies in the memory that it names, where there is one
pub record LiesInside (patch : Patch) (states : List MemoryState) : Type 0 where
  pub within : (state : MemoryState) → slice_get states patch.memory ≡ Some state → patch.offset + length patch.bytes ≤ length state.bytes
