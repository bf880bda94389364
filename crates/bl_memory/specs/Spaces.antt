-- Bytes of memories that are read and written where they exist.
use Rattle.std.specs.Prelude.{ℕ, ◌+◌, nat_le, if◌then◌else◌, List, [], length, set, slice_index_or}
use Rattle.std.specs.List.{fold}
use Rattle.bl_base.specs.Bytes.{bytes_of, number_of, write}
use Rattle.bl_base.specs.Runs.{MemoryState}
use Rattle.bl_base.specs.declared.start.Patch.{Patch}
use Rattle.bl_ops.specs.Access.{extended, narrowed, width_of}
use Rattle.bl_ops.specs.declared.access.AccessKind.{AccessKind}
use Rattle.bl_reduce.specs.Memory.{read}

-- a memory of no page, where no memory is
abbrev pub no_memory : MemoryState
no_memory = record { pages = 0; bytes = [] }

abbrev pub space_at : ℕ → List MemoryState → MemoryState
space_at number memories = slice_index_or memories number no_memory

-- what a load takes from a place, and the memory behind a store of a value at a place
abbrev pub loaded_at : AccessKind → ℕ → MemoryState → ℕ
loaded_at kind address memory = extended kind (number_of (read memory address (width_of kind)))

abbrev pub stored_at : AccessKind → ℕ → ℕ → MemoryState → MemoryState
stored_at kind address value memory = write memory address (bytes_of (width_of kind) (narrowed kind value))

-- the memories with a patch over the one that it names, where that has room for it; and with patches, in order
abbrev pub patched_once : List MemoryState → Patch → List MemoryState
patched_once memories patch = if nat_le (patch.offset + length patch.bytes) (length (space_at patch.memory memories).bytes)
    then set memories patch.memory (write (space_at patch.memory memories) patch.offset patch.bytes)
    else memories

abbrev pub patched_all : List MemoryState → List Patch → List MemoryState
patched_all memories patches = fold patched_once memories patches
