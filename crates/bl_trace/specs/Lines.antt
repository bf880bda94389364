-- What a line of a start file says.
use Rattle.std.specs.Prelude.{ℕ, ◌+◌, ◌*◌, ◌^◌, Bool, false, ◌&&◌, ◌==◌, if◌then◌else◌, List, [], ◌∷◌, length, slice_get, Option, Some, None, option_map, nat_lt, nat_le, codes}
use Rattle.std.specs.List.{slice_split}
use Rattle.std.specs.Str.{bytes_eq}
use Rattle.bl_base.specs.declared.names.ValueType.{ValueType}
use Rattle.bl_base.specs.declared.names.ValueType.TheVariants.{I32, I64}
use Rattle.bl_base.specs.declared.start.Patch.{Patch}
use Rattle.bl_text.specs.Digits.{decimal_below}
use Rattle.bl_trace.specs.Digits.{bytes_of_hex}
use Rattle.bl_trace.specs.declared.entry.Entry.{Entry}
use Rattle.bl_trace.specs.declared.entry.Entry.TheVariants.{Argument, Contents}

-- the words of a line, which single spaces part, the byte 32
abbrev pub words_of : List ℕ → List (List ℕ)
words_of line = slice_split (λ byte. byte == 32) line

-- the numbers of a type are those below this one
abbrev pub limit_of : ValueType → ℕ
limit_of I32 = 2 ^ 32
limit_of I64 = 2 ^ 64

-- the argument for a parameter of a type, by the words behind `arg`; None where no parameter is left too
abbrev pub argument_of : Option ValueType → List (List ℕ) → Option ℕ
argument_of (Some kind) (value ∷ []) = decimal_below (limit_of kind) value
argument_of _ _ = None

-- whether bytes from a place lie in so many pages of 65,536 bytes; with no such memory they don't
abbrev pub lies_in : ℕ → ℕ → Option ℕ → Bool
lies_in offset count (Some pages) = nat_le (offset + count) (pages * 65536)
lies_in offset count None = false

-- the patch of one byte or more in a memory's first pages
abbrev pub patch_by : List ℕ → Option ℕ → Option ℕ → Option (List ℕ) → Option Patch
patch_by sizes (Some memory) (Some offset) (Some bytes) =
    if nat_lt 0 (length bytes) && lies_in offset (length bytes) (slice_get sizes memory)
    then Some (record { memory = memory; offset = offset; bytes = bytes })
    else None
patch_by sizes _ _ _ = None

-- the patch by the words behind `memory`: the memory's number, the offset and the bytes in hexadecimal digits
abbrev pub patch_of : List ℕ → List (List ℕ) → Option Patch
patch_of sizes (memory ∷ offset ∷ bytes ∷ []) =
    patch_by sizes (decimal_below (2 ^ 32) memory) (decimal_below (2 ^ 32) offset) (bytes_of_hex bytes)
patch_of sizes _ = None

-- what words say where the next argument is for a parameter of that type, if any is left
abbrev pub entry_by : Option ValueType → List ℕ → List (List ℕ) → Option Entry
entry_by kind sizes [] = None
entry_by kind sizes (keyword ∷ operands) =
    if bytes_eq keyword (codes "arg") then option_map Argument (argument_of kind operands)
    else if bytes_eq keyword (codes "memory") then option_map Contents (patch_of sizes operands)
    else None

-- what a line says with so many arguments before it; None where the line is bad
abbrev pub entry_of : List ValueType → List ℕ → ℕ → List ℕ → Option Entry
entry_of params sizes arguments line = entry_by (slice_get params arguments) sizes (words_of line)
