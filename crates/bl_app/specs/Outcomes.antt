-- The status of an outcome.
use Rattle.std.specs.Prelude.{Option, Some, None}
use Rattle.bl_base.specs.Runs.{Outcome, returned, trapped}
use Rattle.bl_job.specs.declared.status.Status.{Status}
use Rattle.bl_job.specs.declared.status.Status.TheVariants.{Done, Trapped, Spent}

-- the exit status
abbrev pub outcome_status : Option Outcome → Status
outcome_status (Some (returned values memories)) = Done
outcome_status (Some (trapped kind memories)) = Trapped
outcome_status None = Spent
