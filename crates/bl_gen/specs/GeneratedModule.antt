-- The module that a seed and a size give: so many functions of one type, each of which calls the one before it, a memory, and
-- an export of the last function. Its bytes are in the binary format (WebAssembly 1.0, section 5), by shortest numbers.
use Rattle.std.specs.Prelude.{ℕ, zero, suc, ◌+◌, ◌-◌, ◌*◌, ◌/◌, ◌%◌, ◌==◌, nat_lt, if◌then◌else◌, List, [], ◌∷◌, ◌++◌, length, replicate}
use Rattle.std.specs.List.{flat_map, range_with_len}

-- ---- numbers, and what stands behind its size

-- an unsigned number in at most so many bytes: seven bits a byte, the lowest first, and 2^7 more where another byte follows
-- (section 5.2.2)
abbrev pub leb_within : ℕ → ℕ → List ℕ
leb_within zero n = []
leb_within (suc more) n = if nat_lt n 128 then n ∷ [] else (n % 128 + 128) ∷ leb_within more (n / 128)

-- the shortest spelling of a number below 2^70
unfoldable pub leb : ℕ → List ℕ
leb n = leb_within 10 n

-- contents behind their size (sections 5.5.2 and 5.5.13)
abbrev pub sized : List ℕ → List ℕ
sized contents = leb (length contents) ++ contents

-- a section: its id, and then its contents behind their size (section 5.5.2)
abbrev pub section : ℕ → List ℕ → List ℕ
section id contents = id ∷ sized contents

-- ---- functions

-- the kind of item j of function i, from 0 to 3
abbrev pub item_kind : ℕ → ℕ → ℕ → ℕ
item_kind seed i j = (seed + i + j * (j + 1) / 2) % 4

-- the instructions of an item of a kind (section 5.4); loads are i32.load with alignment 2 and offset 0
unfoldable pub item : ℕ → List ℕ
item kind =
    -- local.get 0, i32.load, local.set 1
    if kind == 0 then 0x20 ∷ 0x00 ∷ 0x28 ∷ 0x02 ∷ 0x00 ∷ 0x21 ∷ 0x01 ∷ []
    -- local.get 1, i32.load, local.set 1
    else (if kind == 1 then 0x20 ∷ 0x01 ∷ 0x28 ∷ 0x02 ∷ 0x00 ∷ 0x21 ∷ 0x01 ∷ []
    -- loop without a type, local.get 1, i32.load, local.set 0, end
    else (if kind == 2 then 0x03 ∷ 0x40 ∷ 0x20 ∷ 0x01 ∷ 0x28 ∷ 0x02 ∷ 0x00 ∷ 0x21 ∷ 0x00 ∷ 0x0B ∷ []
    -- local.get 0, local.get 1, i32.add, local.set 1
    else 0x20 ∷ 0x00 ∷ 0x20 ∷ 0x01 ∷ 0x6A ∷ 0x21 ∷ 0x01 ∷ []))

-- the first items of function i
unfoldable pub items : ℕ → ℕ → ℕ → List ℕ
items seed i count = flat_map (λ j. item (item_kind seed i j)) (range_with_len 0 count)

-- the call of the function before: local.get 1, call, local.set 1
unfoldable pub call_before : ℕ → List ℕ
call_before zero = []
call_before (suc before) = (0x20 ∷ 0x01 ∷ 0x10 ∷ []) ++ leb before ++ (0x21 ∷ 0x01 ∷ [])

-- function i: one run of locals, of one i32; eight items, the call of the function before, local.get 1, and the end of the
-- body (section 5.5.13)
unfoldable pub function : ℕ → ℕ → List ℕ
function seed i = (0x01 ∷ 0x01 ∷ 0x7F ∷ []) ++ items seed i 8 ++ call_before i ++ (0x20 ∷ 0x01 ∷ 0x0B ∷ [])

-- ---- sections

-- the magic number and the version (section 5.5.15)
abbrev pub preamble : List ℕ
preamble = 0x00 ∷ 0x61 ∷ 0x73 ∷ 0x6D ∷ 0x01 ∷ 0x00 ∷ 0x00 ∷ 0x00 ∷ []

-- one type, from an i32 to an i32 (section 5.5.4)
unfoldable pub type_section : List ℕ
type_section = section 1 (0x01 ∷ 0x60 ∷ 0x01 ∷ 0x7F ∷ 0x01 ∷ 0x7F ∷ [])

-- each function is of type 0 (section 5.5.6)
unfoldable pub function_section : ℕ → List ℕ
function_section size = section 3 (leb size ++ replicate size 0x00)

-- one memory, of at least one page (section 5.5.8)
unfoldable pub memory_section : List ℕ
memory_section = section 5 (0x01 ∷ 0x00 ∷ 0x01 ∷ [])

-- one export, by the name f: the last function (section 5.5.10)
unfoldable pub export_section : ℕ → List ℕ
export_section size = section 7 ((0x01 ∷ 0x01 ∷ 0x66 ∷ 0x00 ∷ []) ++ leb (size - 1))

-- the functions' code, each behind its size (section 5.5.13)
unfoldable pub code_section : ℕ → ℕ → List ℕ
code_section seed size = section 10 (leb size ++ flat_map (λ i. sized (function seed i)) (range_with_len 0 size))

-- the module (section 5.5.15)
unfoldable pub made : ℕ → ℕ → List ℕ
made seed size =
    preamble ++ type_section ++ function_section size ++ memory_section ++ export_section size ++ code_section seed size
