-- The jobs of all commands.
use Rattle.bl_app.specs.CompileJobs.{AreTexts}
use Rattle.bl_job.specs.ModuleCount.{with_modules}
use Rattle.bl_app.specs.RunJob.{run_staged}
use Rattle.bl_app.specs.ForwardJob.{forward_staged}
use Rattle.bl_app.specs.GenJob.{gen_staged}
use Rattle.bl_app.specs.HardenJob.{harden_staged}
use Rattle.bl_app.specs.InterpJob.{interp_staged}
use Rattle.bl_job.specs.Jobs.{Job}
use Rattle.bl_app.specs.JoinJob.{join_staged}
use Rattle.bl_app.specs.LowerJob.{lower_staged}
use Rattle.bl_app.specs.PartJob.{part_staged}
use Rattle.bl_text.specs.Names.{AreNamedApart}
use Rattle.bl_words.specs.Requests.{AreInRange, IsGenInRange, Request, forward, gen, harden, interp, join, lower, modules_in, part, predict, run, spec, twin, verify}
use Rattle.bl_app.specs.PredictJob.{predict_staged}
use Rattle.bl_app.specs.SpecJob.{spec_staged}
use Rattle.bl_job.specs.StagedJobs.{Staged, staged_job}
use Rattle.bl_app.specs.TwinJob.{twin_staged}
use Rattle.bl_app.specs.VerifyJob.{verify_staged}

-- a command of a request: what is made on the way, what is given where it is said that its job answers all contents that are there, and the job
pub record Row : Type 1 where
  pub Made : Type 0
  pub Given : Type 0
  pub staged : Staged Made
  pub job : Job

abbrev pub command : {B : Type 0} → Type 0 → Staged B → Row
command {B = B} Given staged = record { Made = B; Given = Given; staged = staged; job = staged_job staged }

-- the command of each request, for modules that are few enough. The status of a deed is 0, and of `interp`, `run` and `predict` also 16 or 17, of `spec` also 18,
-- of `twin` and `forward` also 1 or 18, of `verify` and `join` also 1
abbrev pub row_of : Request → Row
row_of (harden request) = command (AreNamedApart request.modules × AreTexts request.modules) (harden_staged request)
row_of (lower request) = command (AreNamedApart request.modules × AreTexts request.modules) (lower_staged request)
row_of (interp request) = command (AreNamedApart request.modules) (interp_staged request)
row_of (run request) = command (Unit {0}) (run_staged request)
row_of (spec request) = command (Unit {0}) (spec_staged request)
row_of (twin request) = command (Unit {0}) (twin_staged request)
row_of (forward request) = command (Unit {0}) (forward_staged request)
row_of (predict request) = command (Unit {0}) (predict_staged request)
row_of (part request) = command (AreNamedApart request.modules × AreTexts request.modules) (part_staged request)
row_of (join request) = command (Unit {0}) (join_staged request)
row_of (verify request) = command (Unit {0}) (verify_staged request)
row_of (gen request) = command (IsGenInRange request) (gen_staged request)

abbrev pub work_of : Request → Job
work_of request = (row_of request).job

abbrev pub job_of : Request → Job
job_of request = with_modules (modules_in request) (work_of request)

-- one thing alone may be done with contents: of `harden`, of `gen` and of `verify` it may be one of several
abbrev pub HasOnePlan : Request → Type 0
HasOnePlan (harden request) = ⊥
HasOnePlan (gen request) = ⊥
HasOnePlan (verify request) = ⊥
HasOnePlan request = Unit {0}

-- the number and the size of a module that is made are in range, and the steps of a run
abbrev pub IsSized : Request → Type 0
IsSized (gen request) = IsGenInRange request
IsSized (run request) = AreInRange request.steps
IsSized request = Unit {0}
