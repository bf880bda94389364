-- `lower`: its job, and what is said where it is done.
use Rattle.std.specs.Prelude.{◌≡◌, [], ◌∷◌}
use Rattle.bl_build.specs.BuildStages.{AreCompiled, Built}
use Rattle.bl_app.specs.CompileJobs.{compiling_staged}
use Rattle.bl_job.specs.Jobs.{Plan}
use Rattle.bl_words.specs.Requests.{LowerRequest}
use Rattle.bl_app.specs.Texts.{commands_text}
use Rattle.bl_job.specs.StagedJobs.{Staged}
use Rattle.bl_job.specs.declared.status.Status.TheVariants.{Done}

-- keeping the image of a program, and printing how many commands the program has
abbrev pub lower_plan : LowerRequest → Built → Plan
lower_plan request built = record {
  status = Done;
  keeps = (request.image, built.image) ∷ [];
  text = commands_text built.program;
}

abbrev pub LowerPlans : LowerRequest → Built → Plan → Type 0
LowerPlans request built plan = plan ≡ lower_plan request built

-- modules are read and compiled; the image of their program is kept, and the number of its commands is printed. The program ends exactly as the
-- linked tree does
abbrev pub lower_staged : LowerRequest → Staged Built
lower_staged request = compiling_staged request.modules (request.image ∷ []) (LowerPlans request) (λ contents built plan. AreCompiled request.modules contents built)
