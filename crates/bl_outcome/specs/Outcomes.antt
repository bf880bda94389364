-- The text of an outcome.
use Rattle.std.specs.Prelude.{ℕ, ◌*◌, ◌/◌, ◌%◌, false, if◌then◌else◌, List, [], ◌++◌, length, map, slice_get, codes, Option, Some, None}
use Rattle.std.specs.List.{enumerate_from, flat_map, range_with_len, slice_index, zip}
use Rattle.std.specs.Option.{option_map_or}
use Rattle.std.specs.Str.{bytes_eq}
use Rattle.std.specs.Fmt.{decimal, digits}
use Rattle.bl_base.specs.Runs.{MemoryState, Outcome, returned, trapped}
use Rattle.bl_base.specs.Trap.{text_of}
use Rattle.bl_base.specs.declared.names.ValueType.{ValueType}
use Rattle.bl_base.specs.declared.names.ValueType.TheVariants.{I32, I64}
use Rattle.bl_outcome.specs.Lines.{line}

abbrev pub type_word : ValueType → List ℕ
type_word I32 = codes "i32"
type_word I64 = codes "i64"

-- a result: its type and its value
abbrev pub value_text : ValueType → ℕ → List ℕ
value_text kind value = codes " " ++ type_word kind ++ codes " " ++ decimal value

-- the results, each beside its type
abbrev pub values_text : List ValueType → List ℕ → List ℕ
values_text kinds values = flat_map (λ each. value_text each.0 each.1) (zip kinds values)

-- the two digits of a byte
abbrev pub hex_text : ℕ → List ℕ
hex_text byte = digits 16 false (byte / 16) ++ digits 16 false (byte % 16)

-- so many bytes from a place on; what lies past the contents is zero
abbrev pub bytes_at : List ℕ → ℕ → ℕ → List ℕ
bytes_at bytes from count = map (λ place. slice_index bytes place) (range_with_len from count)

-- the row of 16 bytes from that place on
abbrev pub row_bytes : List ℕ → ℕ → List ℕ
row_bytes bytes offset = bytes_at bytes offset 16

-- the line of a row, where it differs from the initial contents
abbrev pub row_text : ℕ → List ℕ → List ℕ → ℕ → List ℕ
row_text number before bytes offset =
    if bytes_eq (row_bytes before offset) (row_bytes bytes offset)
    then []
    else line (codes "row " ++ decimal number ++ codes " " ++ decimal offset ++ codes " " ++ flat_map hex_text (row_bytes bytes offset))

-- the rows of a memory that differ, rising
abbrev pub rows_text : ℕ → List ℕ → List ℕ → List ℕ
rows_text number before bytes = flat_map (λ row. row_text number before bytes (16 * row)) (range_with_len 0 (length bytes / 16))

-- a memory: its pages, and the rows of it that differ
abbrev pub memory_text : ℕ → List ℕ → MemoryState → List ℕ
memory_text number before memory =
    line (codes "memory " ++ decimal number ++ codes " pages " ++ decimal memory.pages) ++ rows_text number before memory.bytes

-- the initial contents of a memory
abbrev pub initial_bytes : List MemoryState → ℕ → List ℕ
initial_bytes initial number = option_map_or (λ memory. memory.bytes) (slice_get initial number) []

-- each memory in order
abbrev pub memories_text : List MemoryState → List MemoryState → List ℕ
memories_text initial memories = flat_map (λ each. memory_text each.0 (initial_bytes initial each.0) each.1) (enumerate_from 0 memories)

-- the outcome of a function with results of those types, from those memories and within so many steps
abbrev pub outcome_text : List ValueType → List MemoryState → ℕ → Option Outcome → List ℕ
outcome_text kinds initial steps (Some (returned values memories)) = line (codes "returned" ++ values_text kinds values)
    ++ memories_text initial memories
outcome_text kinds initial steps (Some (trapped kind memories)) = line (codes "trapped " ++ text_of kind) ++ memories_text initial memories
outcome_text kinds initial steps None = line (codes "spent " ++ decimal steps)
