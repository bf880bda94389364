-- What stands after a call of `harden`.
use Rattle.std.proofs.Common.{◌≡◌, ℕ, List, Option, Some, subst}
use Rattle.bl_words.specs.Requests.{HardenRequest, Request as Asked, harden, modules_in}
use Rattle.bl_app.specs.Commands.{job_of, work_of}
use Rattle.bl_app.specs.HardenJob.{HardenDoes, counts_in}
use Rattle.bl_app.specs.HardenEffects.{HardenLeaves, a_line_only, kept_so_far, nothing_kept}
use Rattle.bl_build.proofs.WeightLemmas.{are_built}
use Rattle.bl_job.specs.Jobs.{AreRead, Plan}
use Rattle.bl_job.specs.CallEffects.{IsLine, Keeps, Leaves, a_line, nothing, so_far}
use Rattle.bl_job.specs.Worlds.{World}
use Rattle.bl_job.proofs.ModuleCountLemmas.{work_done}

-- its plan is that of a hardened program
module _ (request : HardenRequest) (old new : World) where
  by_plan : (contents : List (List ℕ)) (plan : Plan) → AreRead old.files (work_of (harden request)).reads contents → HardenDoes request contents plan → Keeps plan old new → HardenLeaves request old new
  by_plan contents plan read does k =
      let compiled = are_built request.modules contents (counts_in request contents) does.made does.passes in
      kept_so_far contents does.made does.plans.hardened read compiled does.plans.is_hardened (subst (λ p. Keeps p old new) does.plans.is_plan k)

  pub harden_leaves : (asked : Option Asked) → asked ≡ Some (harden request) → Leaves job_of asked old new → HardenLeaves request old new
  harden_leaves asked is (nothing files sink) = nothing_kept files sink
  harden_leaves asked is (a_line text line files said) = a_line_only text (subst (λ a. IsLine job_of a old new text) is line) files said
  harden_leaves asked is (so_far other contents plan theirs read does k) =
      let same : other ≡ harden request = cc in
      let work = work_done (modules_in (harden request)) (work_of (harden request)) old.files contents plan
      (subst (λ r. AreRead old.files (job_of r).reads contents) same read) (subst (λ r. (job_of r).Does contents plan) same does) in
      by_plan contents plan work.0 work.1 k
