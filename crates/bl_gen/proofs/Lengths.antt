-- How long the module is.
use Rattle.std.proofs.Common.{◌≡◌, ℕ, ◌+◌, ◌-◌, ◌<◌, ◌≤◌, List, [], ◌∷◌, ◌++◌, length, length-append, arith}
use Rattle.std.specs.Prelude.{◌^◌, replicate}
use Rattle.std.specs.List.{flat_map, range_with_len}
use Rattle.std.proofs.lemmas.List.{length-replicate}
use Rattle.bl_gen.specs.GeneratedModule.{code_section, export_section, function, function_section, leb, made, memory_section, section, sized, type_section, preamble}
use Rattle.bl_gen.proofs.Numbers.{number_short}
use Rattle.bl_gen.proofs.SpelledModule.{code_short}

section_short : (id : ℕ) (contents : List ℕ) → length contents < 2 ^ 32 → length (section id contents) ≤ 6 + length contents
section_short id contents few =
    let number = number_short (length contents) few in
    omega (arith, length-append (id ∷ leb (length contents)) contents)

types_short : length type_section ≤ 12
unfolding type_section
types_short = section_short 1 (0x01 ∷ 0x60 ∷ 0x01 ∷ 0x7F ∷ 0x01 ∷ 0x7F ∷ []) (omega arith)

functions_short : (size : ℕ) → size ≤ 10000 → length (function_section size) ≤ 10011
unfolding function_section
functions_short size few =
    let number = number_short size (omega arith) in
    let long : length {A = ℕ} (replicate size 0) ≡ size = length-replicate size 0 in
    let contents = leb size ++ replicate size 0x00 in
    let joined = length-append (leb size) (replicate size 0x00) in
    let short : length contents < 2 ^ 32 = omega arith in
    omega (arith, section_short 3 contents short)

memory_short : length memory_section ≤ 9
unfolding memory_section
memory_short = section_short 5 (0x01 ∷ 0x00 ∷ 0x01 ∷ []) (omega arith)

export_short : (size : ℕ) → size ≤ 10000 → length (export_section size) ≤ 15
unfolding export_section
export_short size few =
    let number = number_short (size - 1) (omega arith) in
    let contents = (0x01 ∷ 0x01 ∷ 0x66 ∷ 0x00 ∷ []) ++ leb (size - 1) in
    let joined = length-append (0x01 ∷ 0x01 ∷ 0x66 ∷ 0x00 ∷ []) (leb (size - 1)) in
    let short : length contents < 2 ^ 32 = omega arith in
    omega (arith, section_short 7 contents short)

codes_short : (seed size : ℕ) → size ≤ 10000 → length (code_section seed size) ≤ 1010011
unfolding code_section
codes_short seed size few =
    let number = number_short size (omega arith) in
    let codes = flat_map (λ i. sized (function seed i)) (range_with_len 0 size) in
    let long = code_short seed size few in
    let contents = leb size ++ codes in
    let joined = length-append (leb size) codes in
    let short : length contents < 2 ^ 32 = omega arith in
    omega (arith, section_short 10 contents short)

joined : (a b c d e f : List ℕ) → length (a ++ b ++ c ++ d ++ e ++ f) ≤ length a + length b + length c + length d + length e + length f
joined a b c d e f =
    omega (arith, length-append (a ++ b ++ c ++ d ++ e) f, length-append (a ++ b ++ c ++ d) e, length-append (a ++ b ++ c) d, length-append (a ++ b) c, length-append a b)

pub made_short : (seed size : ℕ) → size ≤ 10000 → length (made seed size) ≤ 4194304
unfolding made
made_short seed size few =
    let whole = joined preamble type_section (function_section size) memory_section (export_section size) (code_section seed size) in
    omega (arith, types_short, functions_short size few, memory_short, export_short size few, codes_short seed size few)
