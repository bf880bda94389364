-- The memories at a run's end.
use Rattle.std.specs.Prelude.{◌≡◌, ◌≤◌, ◌*◌, ℕ, List, length, take, drop}
use Rattle.std.specs.List.{All}
use Rattle.bl_base.specs.Quantity.{limit_of}
use Rattle.bl_base.specs.Runs.{MemoryState, Outcome, returned, trapped, Next, goes, ends, stuck}
use Rattle.bl_base.specs.declared.quantity.Quantity.TheVariants as quantity
use Rattle.bl_program.specs.Layout.{size_of}
use Rattle.bl_program.specs.Steps.{Plain, Registers, states_from}
use Rattle.bl_program.specs.declared.definitions.ProgramParts.{ProgramParts as Program}

-- the memories that registers and bytes tell
abbrev pub memories_of : Program → Registers → List ℕ → List MemoryState
memories_of program registers space = states_from registers space (size_of program 0) 0 program.memories

-- a memory of so many pages whose bytes begin there
abbrev pub pages_at : List ℕ → ℕ → ℕ → MemoryState
pages_at space from pages = record { pages = pages; bytes = take (pages * 65536) (drop from space) }

-- a memory has all bytes of its pages, of which there are few
pub record IsWhole (state : MemoryState) : Type 0 where
  pub len : length state.bytes ≡ state.pages * 65536
  pub few : state.pages ≤ limit_of quantity.Memory

abbrev pub memories_at : Outcome → List MemoryState
memories_at (returned values memories) = memories
memories_at (trapped kind memories) = memories

-- what was come to has whole memories, if it is an end
abbrev pub EndsWhole : Next Plain → Type 0
EndsWhole (goes s) = Unit {0}
EndsWhole (ends outcome) = All IsWhole (memories_at outcome)
EndsWhole stuck = Unit {0}
