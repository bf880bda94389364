-- The bytes of the module spell its tree.
use Rattle.std.proofs.Common.{◌≡◌, ℕ, zero, suc, ◌-◌, ◌<◌, ◌≤◌, List, [], ◌∷◌, ◌++◌, length, map, inl, inr, refl, sym, ◌∙◌, subst, append_assoc, append-nil, length-append, arith}
use Rattle.std.specs.Prelude.{◌^◌, replicate}
use Rattle.std.specs.List.{flat_map, range_with_len}
use Rattle.std.proofs.lemmas.List.{length-replicate}
use Rattle.std.proofs.lemmas.List.FromFn.{length-map-range_with_len, length-range_with_len}
use Rattle.std.proofs.lemmas.Str.{IsUtf8-from_ascii}
use Rattle.std.proofs.lemmas.Str.Ascii.{IsAscii-nil, IsAscii-cons}
use Rattle.bl_leb.specs.Grammar.{Spellings, ◌⨾◌, exactly}
use Rattle.bl_wasm.specs.Values.{u32, each, vec, name, sized}
use Rattle.bl_wasm.specs.Types.{value_type, function_type, memory_type}
use Rattle.bl_wasm.specs.Sections.{code_entry, export_entry, section}
use Rattle.bl_wasm.specs.Modules.{Spells, ◌▷◌, sections}
use Rattle.bl_wasm.specs.declared.module.CustomSection.{CustomSection}
use Rattle.bl_wasm.specs.declared.types.WasmType.TheVariants.{I32}
use Rattle.bl_gen.specs.GeneratedModule.{code_section, export_section, function, function_section, leb, made, memory_section, type_section, section as section_bytes, sized as sized_bytes}
use Rattle.bl_gen.proofs.Bodies.{all_below, all_short, entries_spelled, entry_short}
use Rattle.bl_gen.proofs.Numbers.{number_short, number_spelled}
use Rattle.bl_gen.proofs.Trees.{body, last, memory, tree, type}
use Rattle.bl_wasm.proofs.SpellingLemmas.{both, after, small, single}

-- a section that stands there, or one that is missing, and what follows
here : {Section : Spellings} {Behind : List CustomSection → Spellings} (front rest : List ℕ) → Section front → Behind [] rest → (Section ▷ Behind) [] (front ++ rest)
here front rest s b = record { before = []; after = []; all = refl; spelled = both [] (front ++ rest) refl (both front rest s b) }

-- contents behind their size
packed : {Contents : Spellings} (contents : List ℕ) → length contents < 2 ^ 32 → Contents contents → sized Contents (sized_bytes contents)
packed contents few spelled = record { size = leb (length contents); contents = contents; whole = refl; counted = number_spelled (length contents) few; spelled = spelled }

stands : {Contents : Spellings} (id : ℕ) (contents : List ℕ) → length contents < 2 ^ 32 → Contents contents → section id Contents (section_bytes id contents)
stands id contents few spelled = after _ (packed contents few spelled)

-- elements behind their count
counted : {A : Type 0} (B : A → Spellings) (xs : List A) (n : ℕ) (bytes : List ℕ) → length xs ≡ n → n < 2 ^ 32 → each B xs bytes → vec B xs (leb n ++ bytes)
counted B xs n bytes long few spelled = both (leb n) bytes (subst (λ (k : ℕ). u32 k (leb n)) (sym long) (number_spelled n few)) spelled

-- ---- the sections

type_spelled : section 1 (vec function_type (type ∷ [])) type_section
unfolding type_section
type_spelled = stands 1 (0x01 ∷ 0x60 ∷ 0x01 ∷ 0x7F ∷ 0x01 ∷ 0x7F ∷ []) (omega arith)
    (single function_type type (0x60 ∷ 0x01 ∷ 0x7F ∷ 0x01 ∷ 0x7F ∷ []) (after (0x01 ∷ 0x7F ∷ 0x01 ∷ 0x7F ∷ []) (both (0x01 ∷ 0x7F ∷ []) (0x01 ∷ 0x7F ∷ []) (single value_type I32 (0x7F ∷ []) refl) (single value_type I32 (0x7F ∷ []) refl))))

zeros : (count : ℕ) → each u32 (replicate count 0) (replicate count 0x00)
zeros zero = refl
zeros (suc count) = both (0x00 ∷ []) (replicate count 0x00) (small 0 (omega arith)) (zeros count)

functions_spelled : (size : ℕ) → size ≤ 10000 → section 3 (vec u32 (replicate size 0)) (function_section size)
unfolding function_section
functions_spelled size few =
    let long : length {A = ℕ} (replicate size 0) ≡ size = length-replicate size 0 in
    let number = number_short size (omega arith) in
    stands 3 (leb size ++ replicate size 0x00) (omega (arith, length-append (leb size) (replicate size 0x00))) (counted u32 (replicate size 0) size (replicate size 0x00) long (omega arith) (zeros size))

memory_spelled : section 5 (vec memory_type (memory ∷ [])) memory_section
unfolding memory_section
memory_spelled = stands 5 (0x01 ∷ 0x00 ∷ 0x01 ∷ []) (omega arith) (single memory_type memory (0x00 ∷ 0x01 ∷ []) (after (0x01 ∷ []) (small 1 (omega arith))))

named : name (0x66 ∷ []) (0x01 ∷ 0x66 ∷ [])
named = (IsUtf8-from_ascii (0x66 ∷ []) (IsAscii-cons 0x66 [] (omega arith) IsAscii-nil), both (0x01 ∷ []) (0x66 ∷ []) (small 1 (omega arith)) refl)

export_spelled : (size : ℕ) → size ≤ 10000 → section 7 (vec export_entry (last size ∷ [])) (export_section size)
unfolding export_section
export_spelled size few =
    let number = number_short (size - 1) (omega arith) in
    stands 7 ((0x01 ∷ 0x01 ∷ 0x66 ∷ 0x00 ∷ []) ++ leb (size - 1)) (omega (arith, length-append (0x01 ∷ 0x01 ∷ 0x66 ∷ 0x00 ∷ []) (leb (size - 1))))
    (single export_entry (last size) (0x01 ∷ 0x66 ∷ 0x00 ∷ leb (size - 1))
    (both (0x01 ∷ 0x66 ∷ []) (0x00 ∷ leb (size - 1)) named (after (leb (size - 1)) (number_spelled (size - 1) (omega arith)))))

-- the functions' code takes at most 101 bytes each
pub code_short : (seed size : ℕ) → size ≤ 10000 → length (flat_map (λ i. sized_bytes (function seed i)) (range_with_len 0 size)) ≤ 1010000
code_short seed size few =
    let each_one = all_below (λ i. length (sized_bytes (function seed i)) ≤ 101) size (λ i less. entry_short seed i (omega arith)) in
    let all = all_short (λ i. sized_bytes (function seed i)) 101 (range_with_len 0 size) each_one in
    let long = length-range_with_len 0 size in
    omega arith

code_spelled : (seed size : ℕ) → size ≤ 10000 → section 10 (vec code_entry (map (body seed) (range_with_len 0 size))) (code_section seed size)
unfolding code_section
code_spelled seed size few =
    let codes = flat_map (λ i. sized_bytes (function seed i)) (range_with_len 0 size) in
    let short = code_short seed size few in
    let number = number_short size (omega arith) in
    let long = length-map-range_with_len (body seed) 0 size in
    stands 10 (leb size ++ codes) (omega (arith, length-append (leb size) codes))
    (counted code_entry (map (body seed) (range_with_len 0 size)) size codes long (omega arith) (entries_spelled seed size 0 size (omega arith) (omega arith)))

-- ---- the module

regroup : (b c d e f : List ℕ) → (0x00 ∷ 0x61 ∷ 0x73 ∷ 0x6D ∷ 0x01 ∷ 0x00 ∷ 0x00 ∷ 0x00 ∷ []) ++ b ++ c ++ d ++ e ++ f
    ≡ 0x00 ∷ 0x61 ∷ 0x73 ∷ 0x6D ∷ 0x01 ∷ 0x00 ∷ 0x00 ∷ 0x00 ∷ (b ++ (c ++ (d ++ (e ++ (f ++ [])))))
regroup b c d e f = simp (append_assoc, append-nil)

sections_spelled : (seed size : ℕ) → size ≤ 10000 → sections (tree seed size) [] (type_section ++ (function_section size ++ (memory_section ++ (export_section size ++ (code_section seed size ++ [])))))
sections_spelled seed size few =
    here type_section _ (inl type_spelled)
    (here [] _ (inr (refl, refl))
    (here (function_section size) _ (inl (functions_spelled size few))
    (here [] _ (inr (refl, refl))
    (here memory_section _ (inl memory_spelled)
    (here [] _ (inr (refl, refl))
    (here (export_section size) _ (inl (export_spelled size few))
    (here [] _ refl
    (here [] _ (inr (refl, refl))
    (here (code_section seed size) [] (inl (code_spelled seed size few))
    (here [] [] (inr (refl, refl)) refl))))))))))

pub spelled : (seed size : ℕ) → size ≤ 10000 → Spells (made seed size) (tree seed size)
unfolding made
spelled seed size few =
    let long : length {A = ℕ} (replicate size 0) ≡ size = length-replicate size 0 in
    let all = sections_spelled seed size few in
    let behind = type_section ++ (function_section size ++ (memory_section ++ (export_section size ++ (code_section seed size ++ [])))) in (
      long ∙ sym (length-map-range_with_len (body seed) 0 size),
      subst (λ (bytes : List ℕ). (exactly (0x00 ∷ 0x61 ∷ 0x73 ∷ 0x6D ∷ []) ⨾ exactly (0x01 ∷ 0x00 ∷ 0x00 ∷ 0x00 ∷ []) ⨾ sections (tree seed size) []) bytes)
          (sym (regroup type_section (function_section size) memory_section (export_section size) (code_section seed size)))
          (both (0x00 ∷ 0x61 ∷ 0x73 ∷ 0x6D ∷ []) (0x01 ∷ 0x00 ∷ 0x00 ∷ 0x00 ∷ behind) refl (both (0x01 ∷ 0x00 ∷ 0x00 ∷ 0x00 ∷ []) behind refl all)),
    )
