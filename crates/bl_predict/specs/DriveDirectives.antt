-- A drive as directives that a machine takes.
use Rattle.std.specs.Prelude.{◌≡◌, ◌<◌, ◌≤◌, ℕ, length, None}
use Rattle.std.specs.List.{All}
use Rattle.bl_base.specs.declared.start.Start.{Start}
use Rattle.bl_program.specs.declared.definitions.ProgramParts.{ProgramParts as Program}
use Rattle.bl_rob.specs.Observations.{observed, reached}
use Rattle.bl_rob.specs.declared.directive.Directive.{Directive}
use Rattle.bl_rob.specs.declared.directive.Directive.TheVariants.{Fetch, Predict, Exec, Retire}
use Rattle.bl_predict.specs.Drives.{DriveState, begun, driven}

-- what is executed is one of 64 entries
abbrev pub IsNear : Directive → Type 0
IsNear (Exec n) = n < 64
IsNear Fetch = Unit {0}
IsNear (Predict predicted) = Unit {0}
IsNear Retire = Unit {0}

-- each directive that was chosen is enabled; together they lead from the opening to the machine's state; and there is at most one a step
pub record IsTaken (program : Program) (function : ℕ) (start : Start) (most : ℕ) (d : DriveState) : Type 0 where
  pub enabled : (observed 64 program function start d.trace).refused ≡ None
  pub leads : reached 64 program function start d.trace ≡ d.state
  pub few : length d.trace ≤ most
  pub near : All IsNear d.trace

-- the same of each drive
abbrev pub IsEachTaken : Program → Type 0
IsEachTaken program = (function : ℕ) (start : Start) (most : ℕ) → IsTaken program function start most (driven program most (begun program function start))
