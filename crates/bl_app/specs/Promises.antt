-- What `blade` promises of a call.
use Rattle.std.specs.Prelude.{◌≡◌, ℕ, Option, Some}
use Rattle.bl_job.specs.CallEffects.{Leaves}
use Rattle.bl_job.specs.Causes.{Causes}
use Rattle.bl_job.specs.Ends.{Ends}
use Rattle.bl_job.specs.StagedJobs.{DeedMeans}
use Rattle.bl_job.specs.Status.{IsStatus, kind_of, of_deed}
use Rattle.bl_job.specs.Worlds.{World}
use Rattle.bl_words.specs.Requests.{HardenRequest, Request, harden}
use Rattle.bl_app.specs.Commands.{job_of, row_of}
use Rattle.bl_app.specs.HardenEffects.{HardenLeaves}
use Rattle.bl_app.specs.HardenJob.{Hardens}

-- by what the words ask for, if they are a request; the world that the call finds and the one that it leaves; and the number that it ends with
pub record Promises (asked : Option Request) (old new : World) (code : ℕ) : Type 0 where
  -- how the call ends, whatever fails
  pub ends : IsStatus code (Ends job_of asked old new)
  -- what each status says, and when it comes
  pub causes : IsStatus code (Causes job_of asked old new)
  -- what stands after the call, whatever its status is
  pub leaves : Leaves job_of asked old new
  -- the same of `harden`: the first of its certificate and its image, each whole, and a prefix of one text
  pub harden_leaves : (request : HardenRequest) → asked ≡ Some (harden request) → HardenLeaves request old new
  -- what status 0 says of `harden`: the image means what the modules mean
  pub hardens : (request : HardenRequest) → asked ≡ Some (harden request) → code ≡ 0 → Hardens request old new
  -- what the status of a deed says: what the command of the request says where it is done
  pub says : (request : Request) → asked ≡ Some request
      → IsStatus code (λ status. kind_of status ≡ of_deed → DeedMeans (row_of request).staged old new status)
