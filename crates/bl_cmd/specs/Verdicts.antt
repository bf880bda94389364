-- What `check` and its parts answer.
use Rattle.std.specs.Prelude.{◌≡◌, ◌<◌, ℕ, List, length, Option, Some, None, slice_get}
use Rattle.bl_program.specs.Layout.{command_at, Holds}
use Rattle.bl_program.specs.Rules.{Rule1, Rule2, Rule3, Rule4, Rule5, Rule6, Rule7, Rule8, Rule9, IsFirstBroken, IsWellFormed}
use Rattle.bl_program.specs.declared.command.Command.{Command}
use Rattle.bl_cmd.specs.declared.verdict.CheckError.{CheckError}
use Rattle.bl_cmd.specs.declared.verdict.CheckError.TheVariants as error
use Rattle.bl_cmd.specs.declared.verdict.Fault.{Fault}
use Rattle.bl_program.specs.declared.definitions.ExportDef.{ExportDef}
use Rattle.bl_program.specs.declared.definitions.ProgramParts.{ProgramParts as Program}

-- a fault is the first one; want of memory says nothing
abbrev pub IsReason : Program → CheckError → Type 0
IsReason program (error.Fault rule position) = IsFirstBroken rule position.0 program
IsReason program error.Memory = Unit {0}

-- ---- the rules on the whole program

pub record KeepsParts (program : Program) : Type 0 where
  pub rule1 : Rule1 program
  pub rule2 : Rule2 program
  pub rule3 : Rule3 program
  pub rule9 : Rule9 program

-- no two exports have one name
abbrev pub AreDistinct : List ExportDef → Type 0
AreDistinct exports = (i j : ℕ) (a b : ExportDef) → slice_get exports i ≡ Some a → slice_get exports j ≡ Some b → a.name ≡ b.name → i ≡ j

-- the first of them that is broken
pub data BreaksParts (program : Program) (rule : ℕ) : Type 0 where
  memories : rule ≡ 1 → (Rule1 program → ⊥) → BreaksParts program rule
  functions : rule ≡ 2 → Rule1 program → (Rule2 program → ⊥) → BreaksParts program rule
  exports : rule ≡ 3 → Rule1 program → Rule2 program → (Rule3 program → ⊥) → BreaksParts program rule
  demands : rule ≡ 9 → Rule1 program → Rule2 program → Rule3 program → (Rule9 program → ⊥) → BreaksParts program rule

-- ---- the rules on a command

pub record KeepsRules (program : Program) (function position : ℕ) (command : Command) : Type 0 where
  pub rule4 : Rule4 program function command
  pub rule5 : Rule5 program function position command
  pub rule6 : Rule6 program function command
  pub rule7 : Rule7 program function position command
  pub rule8 : Rule8 program function position command

-- the first of them that is broken
pub data BreaksRule (program : Program) (function position : ℕ) (command : Command) (rule : ℕ) : Type 0 where
  variables : rule ≡ 4 → (Rule4 program function command → ⊥) → BreaksRule program function position command rule
  targets : rule ≡ 5 → Rule4 program function command → (Rule5 program function position command → ⊥)
      → BreaksRule program function position command rule
  ranges : rule ≡ 6 → Rule4 program function command → Rule5 program function position command
      → (Rule6 program function command → ⊥) → BreaksRule program function position command rule
  accesses : rule ≡ 7 → Rule4 program function command → Rule5 program function position command → Rule6 program function command
      → (Rule7 program function position command → ⊥) → BreaksRule program function position command rule
  growths : rule ≡ 8 → Rule4 program function command → Rule5 program function position command → Rule6 program function command
      → Rule7 program function position command → (Rule8 program function position command → ⊥)
      → BreaksRule program function position command rule

-- the commands of a function below a position keep the rules
abbrev pub KeepsBelow : Program → ℕ → ℕ → Type 0
KeepsBelow program function high =
    (position : ℕ) (command : Command) → Holds program function position → position < high → command_at program position ≡ Some command
    → KeepsRules program function position command

-- the first fault among a function's commands
pub record IsFaultIn (program : Program) (function rule position : ℕ) : Type 0 where
  pub command : Command
  pub holds : Holds program function position
  pub stands : command_at program position ≡ Some command
  pub before : KeepsBelow program function position
  pub broken : BreaksRule program function position command rule

-- the first fault among the functions' commands
pub record IsFault (program : Program) (rule position : ℕ) : Type 0 where
  pub function : ℕ
  pub fault : IsFaultIn program function rule position
  pub before : (other : ℕ) → other < function → KeepsBelow program other (length program.commands)

-- what the check finds: nothing where all rules are kept, else the first fault
abbrev pub IsVerdict : Program → Option Fault → Type 0
IsVerdict program None = IsWellFormed program
IsVerdict program (Some fault) = IsFirstBroken fault.rule fault.position.0 program
