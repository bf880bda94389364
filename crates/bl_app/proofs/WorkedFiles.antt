-- The bytes of the worked modules spell these modules.
use Rattle.std.proofs.Common.{◌≡◌, ℕ, ◌<◌, List, [], ◌∷◌, ◌++◌, inl, inr, refl, codes, length, subst, arith}
use Rattle.std.specs.Prelude.{pos}
use Rattle.std.specs.Str.{IsAscii}
use Rattle.std.proofs.lemmas.Str.{IsUtf8-from_ascii}
use Rattle.std.proofs.lemmas.Str.Ascii.{IsAscii-nil, IsAscii-cons}
use Rattle.bl_leb.specs.Grammar.{Spellings}
use Rattle.bl_wasm.specs.Instructions.{expression, none, plain}
use Rattle.bl_wasm.specs.Modules.{Spells, ◌▷◌}
use Rattle.bl_wasm.specs.Sections.{code_entry, export_entry, import_entry, import_section, memory_section, section}
use Rattle.bl_wasm.specs.Types.{function_type, memory_type, value_type}
use Rattle.bl_wasm.specs.Values.{name, sized, u32}
use Rattle.bl_wasm.specs.declared.instruction.Instr.{Instr}
use Rattle.bl_wasm.specs.declared.instruction.Instr.TheVariants.{Call, I32Const}
use Rattle.bl_wasm.specs.declared.module.CustomSection.{CustomSection}
use Rattle.bl_wasm.specs.declared.module.ExportKind.TheVariants as export
use Rattle.bl_wasm.specs.declared.module.Import.{Import}
use Rattle.bl_wasm.specs.declared.types.Limits.{Limits}
use Rattle.bl_wasm.specs.declared.types.WasmType.TheVariants.{I32}
use Rattle.bl_wasm.proofs.SpellingLemmas.{after, both, single, small}
use Rattle.bl_app.specs.WorkedCalls.{library_module, stub_file, user_file}
use Rattle.bl_app.proofs.WorkedApart.{library_part, made, room, stub_part, type, user_part, wanted}

-- ---- small spellings

-- a section, and what follows it, with no custom section
next : {Section : Spellings} {Behind : List CustomSection → Spellings} (front rest : List ℕ) → Section front → Behind [] rest → (Section ▷ Behind) [] (front ++ rest)
next front rest section behind = record { before = []; after = []; all = refl; spelled = both [] (front ++ rest) refl (both front rest section behind) }

-- so few contents behind their size
packed : {Contents : Spellings} (size : ℕ) (contents : List ℕ) → size < 128 → size ≡ length contents → Contents contents → sized Contents (size ∷ contents)
packed size contents lt is spelled = record { size = size ∷ []; contents = contents; whole = refl; counted = subst (λ n. u32 n (size ∷ [])) is (small size lt); spelled = spelled }

named : (letter : ℕ) → letter < 128 → name (letter ∷ []) (1 ∷ letter ∷ [])
named letter lt = (IsUtf8-from_ascii (letter ∷ []) (IsAscii-cons letter [] lt IsAscii-nil), both (1 ∷ []) (letter ∷ []) (small 1 (omega arith)) refl)

-- ---- a module of one function of one item, which it exports under one letter

module _ (imports : List Import) (import_bytes : List ℕ) (imported : import_section imports import_bytes) (memories : List Limits) (memory_bytes : List ℕ)
    (has : memory_section memories memory_bytes) (item : Instr) (code argument : ℕ) (spelled : expression (item ∷ []) (code ∷ argument ∷ 0x0B ∷ []))
    (letter index : ℕ) (ascii : letter < 128) (few : index < 128) where
  entry : code_entry (record { locals = []; items = item ∷ [] }) (0x04 ∷ 0x00 ∷ code ∷ argument ∷ 0x0B ∷ [])
  entry = packed 0x04 (0x00 ∷ code ∷ argument ∷ 0x0B ∷ []) (omega arith) refl (omega arith, both (0x00 ∷ []) _ (both (0x00 ∷ []) [] (small 0 (omega arith)) refl) spelled)

  exported : export_entry (record { name = letter ∷ []; kind = export.Function; index = index }) (0x01 ∷ letter ∷ 0x00 ∷ index ∷ [])
  exported = both (0x01 ∷ letter ∷ []) _ (named letter ascii) (after _ (small index few))

  typed : function_type type (0x60 ∷ 0x00 ∷ 0x01 ∷ 0x7F ∷ [])
  typed = after _ (both (0x00 ∷ []) (0x01 ∷ 0x7F ∷ []) (both (0x00 ∷ []) [] (small 0 (omega arith)) refl) (single value_type I32 (0x7F ∷ []) refl))

  module_spelled : Spells
      (0x00 ∷ 0x61 ∷ 0x73 ∷ 0x6D ∷ 0x01 ∷ 0x00 ∷ 0x00 ∷ 0x00 ∷ 0x01 ∷ 0x05 ∷ 0x01 ∷ 0x60 ∷ 0x00 ∷ 0x01 ∷ 0x7F
      ∷ (import_bytes ++ (0x03 ∷ 0x02 ∷ 0x01 ∷ 0x00
      ∷ (memory_bytes ++ (0x07 ∷ 0x05 ∷ 0x01 ∷ 0x01 ∷ letter ∷ 0x00 ∷ index ∷ 0x0A ∷ 0x06 ∷ 0x01 ∷ 0x04 ∷ 0x00 ∷ code ∷ argument ∷ 0x0B ∷ [])))))
      (made imports memories (item ∷ []) (letter ∷ []) index)
  module_spelled = (
    refl,
    both (0x00 ∷ 0x61 ∷ 0x73 ∷ 0x6D ∷ []) _ refl (both (0x01 ∷ 0x00 ∷ 0x00 ∷ 0x00 ∷ []) _ refl
        (next (0x01 ∷ 0x05 ∷ 0x01 ∷ 0x60 ∷ 0x00 ∷ 0x01 ∷ 0x7F ∷ []) _ (inl (after _ (packed 0x05 (0x01 ∷ 0x60 ∷ 0x00 ∷ 0x01 ∷ 0x7F ∷ []) (omega arith) refl (single function_type type _ typed))))
        (next import_bytes _ imported
        (next (0x03 ∷ 0x02 ∷ 0x01 ∷ 0x00 ∷ []) _ (inl (after _ (packed 0x02 (0x01 ∷ 0x00 ∷ []) (omega arith) refl (single u32 0 _ (small 0 (omega arith))))))
        (next [] _ (inr (refl, refl))
        (next memory_bytes _ has
        (next [] _ (inr (refl, refl))
        (next (0x07 ∷ 0x05 ∷ 0x01 ∷ 0x01 ∷ letter ∷ 0x00 ∷ index ∷ []) _
        (inl (after _ (packed 0x05 (0x01 ∷ 0x01 ∷ letter ∷ 0x00 ∷ index ∷ []) (omega arith) refl (single export_entry (record { name = letter ∷ []; kind = export.Function; index = index }) _ exported))))
        (next [] _ refl
        (next [] _ (inr (refl, refl))
        (next (0x0A ∷ 0x06 ∷ 0x01 ∷ 0x04 ∷ 0x00 ∷ code ∷ argument ∷ 0x0B ∷ []) []
        (inl (after _ (packed 0x06 (0x01 ∷ 0x04 ∷ 0x00 ∷ code ∷ argument ∷ 0x0B ∷ []) (omega arith) refl (single code_entry (record { locals = []; items = item ∷ [] }) _ entry))))
        (next [] [] (inr (refl, refl)) refl)))))))))))),
  )

-- ---- the items, the import and the memory

zero_spelled : expression (I32Const 0 ∷ []) (0x41 ∷ 0x00 ∷ 0x0B ∷ [])
zero_spelled = (plain (I32Const 0) _ tt none, both (0x41 ∷ 0x00 ∷ []) (0x0B ∷ []) (both (0x41 ∷ 0x00 ∷ []) [] (after _ (pos 0, inl (omega arith, omega arith, refl), refl)) refl) refl)

seven_spelled : expression (I32Const 7 ∷ []) (0x41 ∷ 0x07 ∷ 0x0B ∷ [])
seven_spelled = (plain (I32Const 7) _ tt none, both (0x41 ∷ 0x07 ∷ []) (0x0B ∷ []) (both (0x41 ∷ 0x07 ∷ []) [] (after _ (pos 7, inl (omega arith, omega arith, refl), refl)) refl) refl)

lib_ascii : IsAscii (codes "lib")
lib_ascii = IsAscii-cons 0x6C (0x69 ∷ 0x62 ∷ []) (omega arith) (IsAscii-cons 0x69 (0x62 ∷ []) (omega arith) (IsAscii-cons 0x62 [] (omega arith) IsAscii-nil))

one_import : import_section (wanted ∷ []) (0x02 ∷ 0x09 ∷ 0x01 ∷ 0x03 ∷ 0x6C ∷ 0x69 ∷ 0x62 ∷ 0x01 ∷ 0x66 ∷ 0x00 ∷ 0x00 ∷ [])
one_import =
    inl (after _ (packed 0x09 (0x01 ∷ 0x03 ∷ 0x6C ∷ 0x69 ∷ 0x62 ∷ 0x01 ∷ 0x66 ∷ 0x00 ∷ 0x00 ∷ []) (omega arith) refl (single import_entry wanted _
    (both (0x03 ∷ 0x6C ∷ 0x69 ∷ 0x62 ∷ []) _ (IsUtf8-from_ascii (codes "lib") lib_ascii, both (3 ∷ []) (codes "lib") (small 3 (omega arith)) refl)
    (both (0x01 ∷ 0x66 ∷ []) _ (named 0x66 (omega arith)) (after _ (small 0 (omega arith))))))))

one_memory : memory_section (room ∷ []) (0x05 ∷ 0x04 ∷ 0x01 ∷ 0x01 ∷ 0x00 ∷ 0x01 ∷ [])
one_memory =
    inl (after _ (packed 0x04 (0x01 ∷ 0x01 ∷ 0x00 ∷ 0x01 ∷ []) (omega arith) refl
    (single memory_type room _ (after _ (both (0x00 ∷ []) (0x01 ∷ []) (small 0 (omega arith)) (small 1 (omega arith)))))))

called : expression (Call 0 ∷ []) (0x10 ∷ 0x00 ∷ 0x0B ∷ [])
called = (plain (Call 0) _ tt none, both (0x10 ∷ 0x00 ∷ []) (0x0B ∷ []) (both (0x10 ∷ 0x00 ∷ []) [] (after _ (small 0 (omega arith))) refl) refl)

-- ---- the three modules

pub stub_spelled : Spells stub_file.bytes stub_part.wasm
stub_spelled = module_spelled [] [] (inr (refl, refl)) [] [] (inr (refl, refl)) (I32Const 0) 0x41 0x00 zero_spelled 0x66 0 (omega arith) (omega arith)

pub library_spelled : Spells library_module.bytes library_part.wasm
library_spelled =
    module_spelled [] [] (inr (refl, refl)) (room ∷ []) (0x05 ∷ 0x04 ∷ 0x01 ∷ 0x01 ∷ 0x00 ∷ 0x01 ∷ []) one_memory (I32Const 7) 0x41 0x07 seven_spelled 0x66 0 (omega arith) (omega arith)

pub user_spelled : Spells user_file.bytes user_part.wasm
user_spelled =
    module_spelled (wanted ∷ []) (0x02 ∷ 0x09 ∷ 0x01 ∷ 0x03 ∷ 0x6C ∷ 0x69 ∷ 0x62 ∷ 0x01 ∷ 0x66 ∷ 0x00 ∷ 0x00 ∷ []) one_import [] [] (inr (refl, refl)) (Call 0) 0x10 0x00 called 0x67 1
    (omega arith) (omega arith)
