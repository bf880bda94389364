-- What `check_definite` answers.
use Rattle.bl_program.specs.declared.definitions.ProgramParts.{ProgramParts as Program}
use Rattle.bl_definite.specs.Facts.{IsFirstLacking}
use Rattle.bl_definite.specs.declared.checker.DefiniteError.{DefiniteError}
use Rattle.bl_definite.specs.declared.checker.DefiniteError.TheVariants as error

-- the position is the first that lacks something; want of memory says nothing
abbrev pub IsReason : Program → DefiniteError → Type 0
IsReason program (error.Lacking position) = IsFirstLacking program position.0
IsReason program error.Memory = Unit {0}
