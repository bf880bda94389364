-- Numbers as bytes, and bytes of memories (WebAssembly 1.0, sections 4.3.1.3 and 4.4.4).
use Rattle.std.specs.Prelude.{ℕ, zero, suc, ◌+◌, ◌*◌, ◌/◌, ◌%◌, List, [], ◌∷◌, ◌++◌, length, take, drop, set, slice_get, Option, Some, None}
use Rattle.bl_base.specs.Runs.{MemoryState}
use Rattle.bl_base.specs.declared.start.Patch.{Patch}

-- littleendian: the number that bytes are, the lowest first (section 4.3.1.3)
abbrev pub number_of : List ℕ → ℕ
number_of [] = 0
number_of (byte ∷ bytes) = byte + 256 * number_of bytes

-- so many bytes of a number, the lowest first
abbrev pub bytes_of : ℕ → ℕ → List ℕ
bytes_of zero number = []
bytes_of (suc width) number = number % 256 ∷ bytes_of width (number / 256)

-- a memory with other bytes from a place on
abbrev pub write : MemoryState → ℕ → List ℕ → MemoryState
write memory address new = record memory { bytes = take address memory.bytes ++ new ++ drop (address + length new) memory.bytes }

-- the memories with a patch written over the one that it names
abbrev pub patch_over : Option MemoryState → List MemoryState → Patch → List MemoryState
patch_over None memories patch = memories
patch_over (Some memory) memories patch = set memories patch.memory (write memory patch.offset patch.bytes)

abbrev pub patched : List MemoryState → Patch → List MemoryState
patched memories patch = patch_over (slice_get memories patch.memory) memories patch
