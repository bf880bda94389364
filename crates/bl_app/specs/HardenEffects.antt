-- What stands after a call of `harden`, whatever its status is.
use Rattle.std.specs.Prelude.{◌≡◌, ℕ, List, Some}
use Rattle.bl_build.specs.BuildStages.{Built}
use Rattle.bl_build.specs.HardenStage.{Hardened, IsHardened}
use Rattle.bl_build.specs.WeightStages.{AreBuilt}
use Rattle.bl_job.specs.Jobs.{AreRead}
use Rattle.bl_job.specs.CallEffects.{IsLine, Keeps, Prints}
use Rattle.bl_job.specs.Worlds.{World}
use Rattle.bl_words.specs.Requests.{HardenRequest, harden}
use Rattle.bl_app.specs.Commands.{job_of}
use Rattle.bl_app.specs.HardenJob.{counts_in, harden_job, harden_plan}

-- what stands after a call of `harden`: no file, and at most a line on why; or of the certificate and the image of the program, in this
-- order and with their whole contents, the first ones, and a prefix of the report where both are kept, else of the line of a write fault at
-- the next one, where that came
pub data HardenLeaves (request : HardenRequest) (old new : World) : Type 0 where
  nothing_kept : new.files ≡ old.files → new.sink.taken ≡ old.sink.taken → HardenLeaves request old new
  a_line_only : (text : List ℕ) → IsLine job_of (Some (harden request)) old new text → new.files ≡ old.files
      → Prints text old.sink new.sink → HardenLeaves request old new
  kept_so_far : (contents : List (List ℕ)) (built : Built) (hardened : Hardened) → AreRead old.files (harden_job request).reads contents
      → AreBuilt request.modules contents (counts_in request contents) built → IsHardened built.program hardened → Keeps (harden_plan request hardened) old new
      → HardenLeaves request old new
