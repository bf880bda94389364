-- The texts that are printed and written. Every line ends with a line feed.
use Rattle.std.specs.Prelude.{ℕ, List, ◌++◌, length, codes}
use Rattle.std.specs.Fmt.{decimal}
use Rattle.bl_program.specs.declared.definitions.ProgramParts.{ProgramParts as Program}
use Rattle.bl_outcome.specs.Lines.{line}

-- the number of a program's commands
abbrev pub commands_text : Program → List ℕ
commands_text program = line (codes "commands " ++ decimal (length program.commands))
