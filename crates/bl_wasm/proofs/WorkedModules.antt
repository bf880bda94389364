-- The grammar on worked modules.
use Rattle.std.proofs.Common.{ℕ, ◌<◌, List, [], ◌∷◌, ◌++◌, length, None, inl, inr, refl, arith}
use Rattle.std.specs.Prelude.{codes, pos, negsuc}
use Rattle.std.specs.Str.{IsAscii}
use Rattle.std.proofs.lemmas.Str.{IsUtf8-from_ascii}
use Rattle.std.proofs.lemmas.Str.Ascii.{IsAscii-nil, IsAscii-cons}
use Rattle.bl_ops.specs.declared.op.Op.TheVariants.{I32Add}
use Rattle.bl_ops.specs.declared.access.AccessKind.TheVariants.{I32Load, I64Store8}
use Rattle.bl_leb.specs.Grammar.{Spellings, ◌⨾◌}
use Rattle.bl_wasm.specs.Values.{u32, each, vec, name, sized}
use Rattle.bl_wasm.specs.Types.{value_type, function_type}
use Rattle.bl_wasm.specs.Instructions.{Nests, none, plain, loop, if_else, instruction, expression}
use Rattle.bl_wasm.proofs.OpenConstructLemmas.{closes, known_open}
use Rattle.bl_wasm.specs.OpenConstructs.{then_part, else_part, construct, Closes}
use Rattle.bl_wasm.specs.Sections.{section, custom_section, export_entry, local_run, code_entry}
use Rattle.bl_wasm.specs.Modules.{Spells, ◌▷◌}
use Rattle.bl_wasm.specs.declared.instruction.Instr.{Instr}
use Rattle.bl_wasm.specs.declared.instruction.Instr.TheVariants.{LocalGet, I32Const, Integer, CallIndirect, BrTable, Load, Store, F32Const, If, Nop, Else, Loop, Br, End}
use Rattle.bl_wasm.specs.declared.module.CustomSection.{CustomSection}
use Rattle.bl_wasm.specs.declared.module.Module.{Module}
use Rattle.bl_wasm.specs.declared.module.Code.{Code}
use Rattle.bl_wasm.specs.declared.module.Export.{Export}
use Rattle.bl_wasm.specs.declared.types.FuncType.{FuncType}
use Rattle.bl_wasm.specs.declared.module.ExportKind.TheVariants.{Function}
use Rattle.bl_wasm.specs.declared.types.WasmType.TheVariants.{I32}
use Rattle.bl_wasm.specs.declared.types.BlockType.TheVariants.{Empty, Value}
use Rattle.bl_wasm.proofs.SpellingLemmas.{both, after, small, single}

-- a section that stands there, or one that is missing, and what follows, without custom sections before it
here : {Section : Spellings} {Behind : List CustomSection → Spellings} (customs : List CustomSection) (front rest : List ℕ)
    → Section front → Behind customs rest → (Section ▷ Behind) customs (front ++ rest)
here customs front rest s b = record { before = []; after = customs; all = refl; spelled = both [] (front ++ rest) refl (both front rest s b) }

-- the module without sections
abbrev empty : Module
empty = record {
  types = [];
  imports = [];
  functions = [];
  tables = [];
  memories = [];
  globals = [];
  exports = [];
  start = None;
  elements = [];
  bodies = [];
  segments = [];
  customs = [];
}

empty_spelled : Spells (0x00 ∷ 0x61 ∷ 0x73 ∷ 0x6D ∷ 0x01 ∷ 0x00 ∷ 0x00 ∷ 0x00 ∷ []) empty
empty_spelled = (
  refl,
  both (0x00 ∷ 0x61 ∷ 0x73 ∷ 0x6D ∷ []) _ refl (both (0x01 ∷ 0x00 ∷ 0x00 ∷ 0x00 ∷ []) [] refl
      (here [] [] [] (inr (refl, refl))
      (here [] [] [] (inr (refl, refl))
      (here [] [] [] (inr (refl, refl))
      (here [] [] [] (inr (refl, refl))
      (here [] [] [] (inr (refl, refl))
      (here [] [] [] (inr (refl, refl))
      (here [] [] [] (inr (refl, refl))
      (here [] [] [] refl
      (here [] [] [] (inr (refl, refl))
      (here [] [] [] (inr (refl, refl))
      (here [] [] [] (inr (refl, refl)) refl)))))))))))),
)

-- contents of fewer than 128 bytes behind their size
packed : {Contents : Spellings} (contents : List ℕ) → length contents < 128 → Contents contents → sized Contents (length contents ∷ contents)
packed contents lt spelled = record { size = length contents ∷ []; contents = contents; whole = refl; counted = small (length contents) lt; spelled = spelled }

-- a section of fewer than 128 bytes
stands : {Contents : Spellings} (id : ℕ) (contents : List ℕ) → length contents < 128 → Contents contents
    → section id Contents (id ∷ length contents ∷ contents)
stands id contents lt spelled = after _ (packed contents lt spelled)

-- fewer than 128 elements behind their count
counted : {A : Type 0} (B : A → Spellings) (xs : List A) (bytes : List ℕ) → length xs < 128 → each B xs bytes → vec B xs (length xs ∷ bytes)
counted B xs bytes lt spelled = both (length xs ∷ []) bytes (small (length xs) lt) spelled

-- a name of fewer than 128 bytes
named : (these : List ℕ) → length these < 128 → IsAscii these → name these (length these ∷ these)
named these lt ascii = (IsUtf8-from_ascii these ascii, both (length these ∷ []) these (small (length these) lt) refl)

-- the module of one function that adds 1 to its parameter, exported as inc
abbrev add_one_items : List Instr
add_one_items = LocalGet 0 ∷ I32Const 1 ∷ Integer I32Add ∷ []

abbrev add_one_type : FuncType
add_one_type = record { params = I32 ∷ []; results = I32 ∷ [] }

abbrev add_one_export : Export
add_one_export = record { name = codes "inc"; kind = Function; index = 0 }

abbrev add_one_code : Code
add_one_code = record { locals = []; items = add_one_items }

abbrev add_one : Module
add_one = record {
  types = add_one_type ∷ [];
  imports = [];
  functions = 0 ∷ [];
  tables = [];
  memories = [];
  globals = [];
  exports = add_one_export ∷ [];
  start = None;
  elements = [];
  bodies = add_one_code ∷ [];
  segments = [];
  customs = [];
}

type : function_type add_one_type (0x60 ∷ 0x01 ∷ 0x7F ∷ 0x01 ∷ 0x7F ∷ [])
type = after _ (both (0x01 ∷ 0x7F ∷ []) (0x01 ∷ 0x7F ∷ []) (single value_type I32 (0x7F ∷ []) refl) (single value_type I32 (0x7F ∷ []) refl))

inc_ascii : IsAscii (codes "inc")
inc_ascii = IsAscii-cons 0x69 (0x6E ∷ 0x63 ∷ []) (omega arith) (IsAscii-cons 0x6E (0x63 ∷ []) (omega arith) (IsAscii-cons 0x63 [] (omega arith) IsAscii-nil))

exported : export_entry add_one_export (0x03 ∷ 0x69 ∷ 0x6E ∷ 0x63 ∷ 0x00 ∷ 0x00 ∷ [])
exported = both (0x03 ∷ 0x69 ∷ 0x6E ∷ 0x63 ∷ []) _ (named (codes "inc") (omega arith) inc_ascii) (after _ (small 0 (omega arith)))

add_one_nests : Nests add_one_items
add_one_nests = plain (LocalGet 0) _ tt (plain (I32Const 1) _ tt (plain (Integer I32Add) _ tt none))

body : expression add_one_items (0x20 ∷ 0x00 ∷ 0x41 ∷ 0x01 ∷ 0x6A ∷ 0x0B ∷ [])
body = (
  add_one_nests,
  both (0x20 ∷ 0x00 ∷ 0x41 ∷ 0x01 ∷ 0x6A ∷ []) (0x0B ∷ [])
      (both (0x20 ∷ 0x00 ∷ []) _ (after _ (small 0 (omega arith)))
      (both (0x41 ∷ 0x01 ∷ []) _ (after _ (pos 1, inl (omega arith, omega arith, refl), refl))
      (both (0x6A ∷ []) [] (0x6A, refl, refl) refl)))
      refl,
)

code : code_entry add_one_code (0x07 ∷ 0x00 ∷ 0x20 ∷ 0x00 ∷ 0x41 ∷ 0x01 ∷ 0x6A ∷ 0x0B ∷ [])
code = packed (0x00 ∷ 0x20 ∷ 0x00 ∷ 0x41 ∷ 0x01 ∷ 0x6A ∷ 0x0B ∷ []) (omega arith)
    (omega arith, both (0x00 ∷ []) _ (counted local_run [] [] (omega arith) refl) body)

add_one_spelled : Spells (0x00 ∷ 0x61 ∷ 0x73 ∷ 0x6D ∷ 0x01 ∷ 0x00 ∷ 0x00 ∷ 0x00 ∷ 0x01 ∷ 0x06 ∷ 0x01 ∷ 0x60 ∷ 0x01 ∷ 0x7F ∷ 0x01 ∷ 0x7F ∷ 0x03 ∷ 0x02 ∷ 0x01 ∷ 0x00 ∷ 0x07 ∷ 0x07 ∷ 0x01 ∷ 0x03 ∷ 0x69 ∷ 0x6E ∷ 0x63 ∷ 0x00 ∷ 0x00 ∷ 0x0A ∷ 0x09 ∷ 0x01 ∷ 0x07 ∷ 0x00 ∷ 0x20 ∷ 0x00 ∷ 0x41 ∷ 0x01 ∷ 0x6A ∷ 0x0B ∷ []) add_one
add_one_spelled = (
  refl,
  both (0x00 ∷ 0x61 ∷ 0x73 ∷ 0x6D ∷ []) _ refl (both (0x01 ∷ 0x00 ∷ 0x00 ∷ 0x00 ∷ []) _ refl
      (here [] (0x01 ∷ 0x06 ∷ 0x01 ∷ 0x60 ∷ 0x01 ∷ 0x7F ∷ 0x01 ∷ 0x7F ∷ []) _ (inl (stands 1 (0x01 ∷ 0x60 ∷ 0x01 ∷ 0x7F ∷ 0x01 ∷ 0x7F ∷ []) (omega arith) (single function_type add_one_type _ type)))
      (here [] [] _ (inr (refl, refl))
      (here [] (0x03 ∷ 0x02 ∷ 0x01 ∷ 0x00 ∷ []) _ (inl (stands 3 (0x01 ∷ 0x00 ∷ []) (omega arith) (single u32 0 _ (small 0 (omega arith)))))
      (here [] [] _ (inr (refl, refl))
      (here [] [] _ (inr (refl, refl))
      (here [] [] _ (inr (refl, refl))
      (here [] (0x07 ∷ 0x07 ∷ 0x01 ∷ 0x03 ∷ 0x69 ∷ 0x6E ∷ 0x63 ∷ 0x00 ∷ 0x00 ∷ []) _ (inl (stands 7 (0x01 ∷ 0x03 ∷ 0x69 ∷ 0x6E ∷ 0x63 ∷ 0x00 ∷ 0x00 ∷ []) (omega arith) (single export_entry add_one_export _ exported)))
      (here [] [] _ refl
      (here [] [] _ (inr (refl, refl))
      (here [] (0x0A ∷ 0x09 ∷ 0x01 ∷ 0x07 ∷ 0x00 ∷ 0x20 ∷ 0x00 ∷ 0x41 ∷ 0x01 ∷ 0x6A ∷ 0x0B ∷ []) [] (inl (stands 10 (0x01 ∷ 0x07 ∷ 0x00 ∷ 0x20 ∷ 0x00 ∷ 0x41 ∷ 0x01 ∷ 0x6A ∷ 0x0B ∷ []) (omega arith) (single code_entry add_one_code _ code)))
      (here [] [] [] (inr (refl, refl)) refl)))))))))))),
)

-- -1, unsigned
minus_one : instruction (I32Const 4294967295) (0x41 ∷ 0x7F ∷ [])
minus_one = after _ (negsuc 0, inr (omega arith, omega arith, omega arith, refl), refl)

-- the zero of call_indirect in two bytes
long_zero : instruction (CallIndirect 1) (0x11 ∷ 0x01 ∷ 0x80 ∷ 0x00 ∷ [])
long_zero = after _ (both (0x01 ∷ []) _ (small 1 (omega arith)) (omega arith, omega arith, omega arith, 0, (omega arith, omega arith, refl), refl))

-- a size in five bytes
long_size : u32 9 (0x89 ∷ 0x80 ∷ 0x80 ∷ 0x80 ∷ 0x00 ∷ [])
long_size = (
  omega arith,
  omega arith,
  omega arith,
  0,
  (
    omega arith,
    omega arith,
    omega arith,
    0,
    (
      omega arith,
      omega arith,
      omega arith,
      0,
      (omega arith, omega arith, omega arith, 0, (omega arith, omega arith, refl), refl),
      refl,
    ),
    refl,
  ),
  refl,
)

-- labels and the default
table : instruction (BrTable 2 (0 ∷ 1 ∷ [])) (0x0E ∷ 0x02 ∷ 0x00 ∷ 0x01 ∷ 0x02 ∷ [])
table = after _ (both (0x02 ∷ 0x00 ∷ 0x01 ∷ []) _
    (counted u32 (0 ∷ 1 ∷ []) (0x00 ∷ 0x01 ∷ []) (omega arith) (both (0x00 ∷ []) _ (small 0 (omega arith)) (both (0x01 ∷ []) [] (small 1 (omega arith)) refl)))
    (small 2 (omega arith)))

-- a load, and a store beside it
load : instruction (Load I32Load (record { alignment = 2; offset = 4 })) (0x28 ∷ 0x02 ∷ 0x04 ∷ [])
load = (refl, after _ (both (0x02 ∷ []) (0x04 ∷ []) (small 2 (omega arith)) (small 4 (omega arith))))

store : instruction (Store I64Store8 (record { alignment = 0; offset = 4 })) (0x3C ∷ 0x00 ∷ 0x04 ∷ [])
store = (refl, after _ (both (0x00 ∷ []) (0x04 ∷ []) (small 0 (omega arith)) (small 4 (omega arith))))

-- 1.0 as a float
one : instruction (F32Const 0x3F800000) (0x43 ∷ 0x00 ∷ 0x00 ∷ 0x80 ∷ 0x3F ∷ [])
one = after _ (refl, refl)

-- an if with an else part, which is a loop
nested : Nests (If Empty ∷ Nop ∷ Else ∷ Loop (Value I32) ∷ Br 0 ∷ End ∷ End ∷ [])
nested = if_else Empty (Nop ∷ []) (Loop (Value I32) ∷ Br 0 ∷ End ∷ []) [] (plain Nop [] tt none)
    (loop (Value I32) (Br 0 ∷ []) [] (plain (Br 0) [] tt none) none) none

-- a second else has no if
two_parts : Nests (If Empty ∷ Else ∷ Else ∷ End ∷ []) → ⊥
two_parts n =
    let c = closes (If Empty ∷ Else ∷ Else ∷ End ∷ []) n in
    let before = construct then_part Empty ∷ [] in
    let behind = construct else_part Empty ∷ [] in
    let first : Closes before (Else ∷ Else ∷ End ∷ []) = known_open before c.0 (Else ∷ Else ∷ End ∷ []) c.1 c.2 in
    let second : Closes behind (Else ∷ End ∷ []) = known_open behind first.0 (Else ∷ End ∷ []) first.1 first.2 in
    absurd (cc second.1)

-- a custom section may hold any bytes behind its name
custom : custom_section (record { name = codes "a"; bytes = 0xFF ∷ [] }) (0x00 ∷ 0x03 ∷ 0x01 ∷ 0x61 ∷ 0xFF ∷ [])
custom = stands 0 (0x01 ∷ 0x61 ∷ 0xFF ∷ []) (omega arith) (both (0x01 ∷ 0x61 ∷ []) (0xFF ∷ [])
    (named (codes "a") (omega arith) (IsAscii-cons 0x61 [] (omega arith) IsAscii-nil)) refl)
