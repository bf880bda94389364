-- The functions of an interface in a program, by their numbers.
use Rattle.std.specs.Prelude.{◌≡◌, ◌<◌, ℕ, IsSomeAnd, List, Some, length, slice_get, slice_index}
use Rattle.std.specs.List.{All}
use Rattle.bl_program.specs.Layout.{params_of, results_of}
use Rattle.bl_program.specs.declared.definitions.ProgramParts.{ProgramParts as Program}
use Rattle.bl_iface.specs.Answers.{IsFirstWithout}
use Rattle.bl_iface.specs.JoinedProgram.{exported}
use Rattle.bl_iface.specs.declared.error.TargetsError.{TargetsError}
use Rattle.bl_iface.specs.declared.error.TargetsError.TheVariants.{Unmatched, Memory}
use Rattle.bl_iface.specs.declared.iface.FnIface.{FnIface}
use Rattle.bl_iface.specs.declared.iface.Iface.{Iface}

-- a function has as many parameters and results as are agreed
abbrev pub Fits : Program → FnIface → ℕ → Type 0
Fits program one f = (params_of program f ≡ length one.params) × (results_of program f ≡ length one.results)

-- a function of the interface is an export with as many parameters and results
abbrev pub IsMatched : Program → FnIface → Type 0
IsMatched program one = IsSomeAnd (exported program.exports one.name) (Fits program one)

-- each function of the interface is one
abbrev pub Matches : Program → Iface → Type 0
Matches program iface = All (IsMatched program) iface.functions

-- the program's functions of an interface's names, in order
pub record AreTargets (program : Program) (iface : Iface) (targets : List ℕ) : Type 0 where
  pub many : length targets ≡ length iface.functions
  pub each : (k : ℕ) (one : FnIface) → slice_get iface.functions k ≡ Some one → exported program.exports one.name ≡ Some (slice_index targets k)
  pub exist : All (λ target. target < length program.functions) targets

-- why there are none: the first that isn't matched, or memory ran out, which no clause rules out
abbrev pub IsTargetsError : Program → Iface → TargetsError → Type 0
IsTargetsError program iface (Unmatched index) = IsFirstWithout (IsMatched program) iface.functions index
IsTargetsError program iface Memory = Unit {0}
