-- The tables with which a program's commands are checked.
use Rattle.bl_program.specs.Sites.{Names}
use Rattle.std.specs.Prelude.{◌≡◌, ◌≢◌, ◌⊎◌, ◌<◌, ◌≤◌, ℕ, ◌-◌, List, [], ◌∷◌, length}
use Rattle.bl_program.specs.Layout.{first_of, entry_of, AreValues, Holds}
use Rattle.bl_program.specs.Programs.{IsProgram}
use Rattle.bl_program.specs.Rules.{Rule2, IsLocal, IsReadable, IsPassed, IsGuarded, variable}
use Rattle.bl_program.specs.declared.command.Command.{Command}
use Rattle.bl_program.specs.declared.command.Command.TheVariants.{Test, Jump}
use Rattle.bl_program.specs.declared.command.Operand.{Operand}
use Rattle.bl_program.specs.declared.definitions.ProgramParts.{ProgramParts as Program}
use Rattle.bl_cmd.specs.Entrants.{AreEntrants}
use Rattle.bl_cmd.specs.declared.tables.Tables.{Tables}
use Rattle.bl_cmd.specs.declared.place.Place.{Place}

-- the tables are those of the program, which keeps rule 2
pub record AreTables (program : Program) (tables : Tables) : Type 0 where
  pub facts : IsProgram program
  pub rule : Rule2 program
  pub firsts : AreValues (first_of program) (length program.functions) tables.firsts
  pub entries : AreValues (entry_of program) (length program.functions) tables.entries
  pub entrants : AreEntrants program.commands tables.entrants

-- a position of a function of a program, with the program's tables
pub record IsPlace (place : Place) : Type 0 where
  pub tables : AreTables place.parts.now place.tables.now
  pub holds : Holds place.parts.now place.function place.position

-- a position is one that the function's commands may go to
abbrev pub IsTarget : Place → ℕ → Type 0
IsTarget place target = (target < 7) ⊎ Holds place.parts.now place.function target

-- each target that the command names is one
abbrev pub HasTargets : Place → Command → Type 0
HasTargets place (Test cond one other) = IsTarget place one.0 × IsTarget place other.0
HasTargets place (Jump to) = IsTarget place to.0
HasTargets place _ = Unit {0}

-- the function's commands may read what the operand names
pub record ReadsOne (place : Place) (operand : Operand) : Type 0 where
  pub each : (x : ℕ) → Names operand x → IsReadable place.parts.now place.function x

-- they may read what each of the operands names
abbrev pub ReadsEach : Place → List Operand → Type 0
ReadsEach place [] = Unit {0}
ReadsEach place (operand ∷ operands) = ReadsOne place operand × ReadsEach place operands

-- the test of an access: t is a variable of the function that isn't a result and isn't the address, `yes` isn't
-- the access, and nothing else comes to the test and the access but by going on
pub record IsTestedBy (place : Place) (address : Operand) (t yes : ℕ) : Type 0 where
  pub own : IsLocal place.parts.now place.function t
  pub apart : address ≢ variable t
  pub away : yes ≢ place.position
  pub test_passed : IsPassed place.parts.now (place.position - 1)
  pub guarded : IsGuarded place.parts.now (place.position - 0 - 1) (place.position - 0)

-- a variable of the function isn't a result and isn't the operand
pub record IsApart (place : Place) (operand : Operand) (x : ℕ) : Type 0 where
  pub own : IsLocal place.parts.now place.function x
  pub apart : operand ≢ variable x

-- nothing comes to the last four commands of a growth but by going on, and by its Test
pub record IsGrownAlone (place : Place) (yes : ℕ) : Type 0 where
  pub away : yes ≢ place.position - 1
  pub passed_t : IsPassed place.parts.now (place.position - 3)
  pub passed_test : IsPassed place.parts.now (place.position - 2)
  pub guarded : IsGuarded place.parts.now (place.position - 1 - 1) (place.position - 1)
  pub passed_size : IsPassed place.parts.now (place.position - 0)

-- the variables of a growth and the other ways to its commands are as they have to be
pub record IsGrownBy (place : Place) (delta : Operand) (r t v yes : ℕ) : Type 0 where
  pub first : IsApart place delta r
  pub second : IsApart place delta t
  pub third : IsApart place delta v
  pub alone : IsGrownAlone place yes
