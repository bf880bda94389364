-- Count files: a program's number of commands, and how often its sites were executed.
use Rattle.std.specs.Prelude.{◌≡◌, ℕ, zero, suc, ◌+◌, ◌^◌, ◌==◌, if◌then◌else◌, List, [], ◌∷◌, ◌++◌, take, drop, Option, Some, None, Result, Ok, Err, codes}
use Rattle.std.specs.Fmt.{decimal}
use Rattle.std.specs.List.{before_first, after_first, flat_map}
use Rattle.std.specs.Str.{bytes_eq}
use Rattle.bl_text.specs.Digits.{decimal_below}
use Rattle.bl_text.specs.Items.{items_of}
use Rattle.bl_text.specs.Lines.{lines_of}
use Rattle.bl_counts.specs.declared.file.CountFile.{CountFile}
use Rattle.bl_counts.specs.declared.counts.SiteCount.{SiteCount}
use Rattle.bl_counts.specs.declared.error.CountFileError.{CountFileError}
use Rattle.bl_counts.specs.declared.error.CountFileError.TheVariants.{Line, Memory}

-- the number of commands that a line `commands N` says, below 2^64
abbrev pub commands_of : List ℕ → Option ℕ
commands_of line = if bytes_eq (take 9 line) (codes "commands ") then decimal_below (2 ^ 64) (drop 9 line) else None

-- a site with a count, which is above 0
abbrev pub site_with : Option ℕ → Option ℕ → Option SiteCount
site_with (Some at) (Some zero) = None
site_with (Some at) (Some (suc count)) = Some (record { at = record { 0 = at }; count = suc count })
site_with (Some at) None = None
site_with None count = None

-- the site and the count that a text `POS COUNT` says, each below 2^32
abbrev pub site_in : List ℕ → Option SiteCount
site_in text =
    site_with (decimal_below (2 ^ 32) (before_first (λ byte. byte == 32) text)) (decimal_below (2 ^ 32) (after_first (λ byte. byte == 32) text))

-- those that a line `site POS COUNT` says
abbrev pub site_of : List ℕ → Option SiteCount
site_of line = if bytes_eq (take 5 line) (codes "site ") then site_in (drop 5 line) else None

-- a number of commands with what the lines behind its own say; a bad line's number counts that line too
abbrev pub with_commands : ℕ → Result (List SiteCount) ℕ → Result CountFile ℕ
with_commands commands (Ok counts) = Ok (record { commands = commands; counts = counts })
with_commands commands (Err number) = Err (number + 1)

-- what lines say, by what the first one does; else the number of the first bad one, from 1
abbrev pub counted_by : Option ℕ → List (List ℕ) → Result CountFile ℕ
counted_by (Some commands) lines = with_commands commands (items_of site_of lines)
counted_by None lines = Err 1

abbrev pub counted : List (List ℕ) → Result CountFile ℕ
counted [] = Err 1
counted (line ∷ lines) = counted_by (commands_of line) lines

-- the counts of a file; an empty one is bad at its first line
abbrev pub count_file_of : List ℕ → Result CountFile ℕ
count_file_of bytes = counted (lines_of bytes)

-- an answer is the one of the file, or memory ran out, which no clause rules out
abbrev pub IsCountFile : Result CountFile ℕ → Result CountFile CountFileError → Type 0
IsCountFile asked (Ok file) = asked ≡ Ok file
IsCountFile asked (Err (Line number)) = asked ≡ Err number
IsCountFile asked (Err Memory) = Unit {0}

-- ---- texts

-- the line of a site and its count
abbrev pub site_text : SiteCount → List ℕ
site_text one = codes "site " ++ decimal one.at.0 ++ codes " " ++ decimal one.count ++ 10 ∷ []

-- the text of a count file: the program's number of commands, and each count
abbrev pub counts_text : ℕ → List SiteCount → List ℕ
counts_text commands counts = codes "commands " ++ decimal commands ++ 10 ∷ [] ++ flat_map site_text counts
