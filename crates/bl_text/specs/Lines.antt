-- The lines of a file.
use Rattle.std.specs.Prelude.{ℕ, ◌==◌, if◌then◌else◌, List, [], ◌∷◌}
use Rattle.std.specs.List.{onto_first}
use Rattle.bl_text.specs.declared.lines.Lines.{Lines}

-- the lines of a file: each ends with LF, the byte 10, which the last one may lack
abbrev pub lines_of : List ℕ → List (List ℕ)
lines_of [] = []
lines_of (byte ∷ bytes) = if byte == 10 then [] ∷ lines_of bytes else onto_first byte (lines_of bytes)

-- those that are still to come
abbrev pub lines_left : Lines → List (List ℕ)
lines_left lines = lines_of lines.rest.now
