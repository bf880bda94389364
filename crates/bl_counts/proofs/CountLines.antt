-- A count file by its first line and those behind it.
use Rattle.std.proofs.Common.{◌≡◌, ℕ, ◌+◌, ◌-◌, ◌==◌, List, [], ◌∷◌, length, take, drop, Some, None, Ok, Err, refl, sym, ap, ◌∙◌, arith}
use Rattle.std.proofs.Math.ListN.{drop_of_length-le}
use Rattle.std.proofs.lemmas.List.{take_rest}
use Rattle.std.specs.List.{position_or_len}
use Rattle.bl_text.specs.Items.{items_of}
use Rattle.bl_text.specs.Lines.{lines_of}
use Rattle.bl_text.proofs.LineSplits.{first_line}
use Rattle.bl_counts.specs.CountFiles.{commands_of, count_file_of, counted, counted_by, site_of, with_commands}

-- the first line is bad
pub bad_first : (bytes : List ℕ) (end : ℕ) → end ≡ position_or_len (λ b. b == 10) bytes → None ≡ commands_of (take end bytes) → count_file_of bytes ≡ Err 1
bad_first [] end ends none = refl
bad_first (byte ∷ bytes) end ends none =
    let all = byte ∷ bytes in
    ap counted (first_line byte bytes)
    ∙ ap (λ (n : ℕ). counted_by (commands_of (take n all)) (lines_of (drop (n + 1) all))) (sym ends)
    ∙ ap (λ found. counted_by found (lines_of (drop (end + 1) all))) (sym none)

-- the first line says a number of commands
pub first_said : (bytes : List ℕ) (end commands : ℕ) → end ≡ position_or_len (λ b. b == 10) bytes → Some commands ≡ commands_of (take end bytes)
    → count_file_of bytes ≡ with_commands commands (items_of site_of (lines_of (drop (end + 1) bytes)))
first_said [] end commands ends some =
    let none : Some commands ≡ None = some ∙ ap (λ n. commands_of (take n [])) ends in
    cc
first_said (byte ∷ bytes) end commands ends some =
    let all = byte ∷ bytes in
    ap counted (first_line byte bytes)
    ∙ ap (λ (n : ℕ). counted_by (commands_of (take n all)) (lines_of (drop (n + 1) all))) (sym ends)
    ∙ ap (λ found. counted_by found (lines_of (drop (end + 1) all))) (sym some)

-- there is no other line
pub first_alone : (bytes : List ℕ) (end commands : ℕ) → end ≡ position_or_len (λ b. b == 10) bytes → Some commands ≡ commands_of (take end bytes)
    → end ≡ length bytes → count_file_of bytes ≡ Ok (record { commands = commands; counts = [] })
first_alone bytes end commands ends some whole =
    first_said bytes end commands ends some
    ∙ ap (λ rest. with_commands commands (items_of site_of (lines_of rest))) (drop_of_length-le bytes (omega (arith, whole)))

-- what the lines behind it say
pub others_said : (bytes : List ℕ) (end commands : ℕ) → end ≡ position_or_len (λ b. b == 10) bytes → Some commands ≡ commands_of (take end bytes)
    → count_file_of bytes ≡ with_commands commands (items_of site_of (lines_of (take (length bytes - (end + 1)) (drop (end + 1) bytes))))
others_said bytes end commands ends some =
    first_said bytes end commands ends some
    ∙ ap (λ rest. with_commands commands (items_of site_of (lines_of rest))) (sym (take_rest bytes (end + 1)))
