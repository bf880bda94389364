-- `twin`: its job, and what is said where it is done.
use Rattle.std.specs.Prelude.{◌≡◌, ◌↔◌, Bool, IsTrue, [], ◌∷◌}
use Rattle.bl_program.specs.Outcomes.{Agree}
use Rattle.bl_graph.specs.Labels.{ConstantTime}
use Rattle.bl_rob.specs.Observations.{Observed, observed}
use Rattle.bl_rob.specs.declared.directive.Observation.{Observation}
use Rattle.bl_sct.specs.Verdicts.{IsStable}
use Rattle.bl_twin.specs.TwinComparisons.{Tells, comparison, twin_text}
use Rattle.bl_twin.specs.declared.comparison.Comparison.{Comparison}
use Rattle.bl_twin.specs.declared.comparison.Comparison.TheVariants as compared
use Rattle.bl_words.specs.Requests.{TwinRequest}
use Rattle.bl_app.specs.RunJob.{image_read}
use Rattle.bl_app.specs.InterpJob.{start_read}
use Rattle.bl_job.specs.Jobs.{Plan, saying}
use Rattle.bl_app.specs.SpecJob.{seen_of, trace_read}
use Rattle.bl_job.specs.StagedJobs.{Staged, all_read, file}
use Rattle.bl_job.specs.declared.status.Status.{Status}
use Rattle.bl_job.specs.declared.status.Status.TheVariants.{Done, No, Stuck}
use Rattle.bl_build.specs.TraceStages.{Twinned, entry_of, twinning}

-- ---- what is observed

-- what is observed of the directives from the other start, where the buffer has room for 64 entries
abbrev pub other_seen : Twinned → Observed Observation
other_seen twinned =
    observed 64 (entry_of twinned).program (entry_of twinned).function twinned.other twinned.speculated.directives

-- whether the two starts agree in public
abbrev pub StartsAgree : Twinned → Type 0
StartsAgree twinned = Agree (entry_of twinned).program (entry_of twinned).function twinned.speculated.entered.start twinned.other

-- how the two runs compare
abbrev pub comparison_of : Twinned → Comparison
comparison_of twinned = comparison (seen_of twinned.speculated) (other_seen twinned)

-- no where the two runs are observed differently
abbrev pub twin_status : Comparison → Status
twin_status compared.Equal = Done
twin_status compared.Stuck = Stuck
twin_status compared.Differ = No

-- ---- the command

-- printing whether the starts agree in public, the common observations, and how the runs go on
pub record TwinPlans (twinned : Twinned) (plan : Plan) : Type 0 where
  pub agree : Bool
  pub agrees : IsTrue agree ↔ StartsAgree twinned
  pub is_plan : plan ≡ saying (twin_status (comparison_of twinned)) (twin_text agree (seen_of twinned.speculated) (other_seen twinned))

-- the text says what is observed of the two runs, each from its own start, and where they differ. Where the program is constant-time and its
-- own protects pass, so that it is safe, and the starts agree in public, the runs don't differ
pub record TwinMeans (twinned : Twinned) (plan : Plan) : Type 0 where
  pub tells : Tells (seen_of twinned.speculated) (other_seen twinned)
  pub safe : ConstantTime (entry_of twinned).program → IsStable (entry_of twinned).program → StartsAgree twinned → plan.status ≡ No → ⊥

-- an image, a trace file and two start files are read, and how the runs compare is printed
abbrev pub twin_staged : TwinRequest → Staged Twinned
twin_staged request = record {
  reads = image_read request.image ∷ trace_read request.trace ∷ start_read request.start ∷ start_read request.other_start ∷ [];
  keeps = [];
  reading = file (λ image. file (λ trace. file (λ start. file (λ other. all_read (twinning request.export trace start other) image))));
  Plans = TwinPlans;
  Means = λ contents. TwinMeans;
}
