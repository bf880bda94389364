-- `harden`: its job, and what is said where it is done.
use Rattle.std.specs.Prelude.{◌≡◌, ◌≤◌, ℕ, List, [], ◌∷◌, ◌++◌, length, map, slice_get, Option, Some, None}
use Rattle.bl_base.specs.Quantity.{limit_of}
use Rattle.bl_base.specs.declared.quantity.Quantity.TheVariants as quantity
use Rattle.bl_outside.specs.Shelf.{with_file}
use Rattle.bl_witness.specs.Texts.{certificate_text}
use Rattle.bl_wasm.specs.declared.linked.Tree.{Tree}
use Rattle.bl_report.specs.Reports.{report_text}
use Rattle.bl_build.specs.BuildStages.{Built}
use Rattle.bl_build.specs.LoadStages.{parts_of}
use Rattle.bl_build.specs.WeightStages.{AreBuilt, Sources, compiling_by}
use Rattle.bl_app.specs.CompileJobs.{module_read}
use Rattle.bl_job.specs.Jobs.{AreRead, FileIs, Job, Plan, Read}
use Rattle.bl_build.specs.ProgramMeaning.{SameOutcomes}
use Rattle.bl_words.specs.Requests.{HardenRequest, file_named}
use Rattle.bl_job.specs.StagedJobs.{Makes, Staged, contents_stage, others, staged_job}
use Rattle.bl_job.specs.Worlds.{World, took}
use Rattle.bl_job.specs.declared.status.Status.TheVariants.{Done}
use Rattle.bl_build.specs.HardenStage.{Hardened, AreLeast, IsHardened, IsJudged}

-- a count file that is read
abbrev pub counts_read : List ℕ → Read
counts_read word = record { name = word; quantity = quantity.Counts }

-- the contents of the count file, which is read behind so many modules, if one is named
abbrev pub counts_among : ℕ → Option (List ℕ) → List (List ℕ) → Option (List ℕ)
counts_among modules None contents = None
counts_among modules (Some word) contents = slice_get contents modules

abbrev pub counts_in : HardenRequest → List (List ℕ) → Option (List ℕ)
counts_in request contents = counts_among (length request.modules) request.counts contents

-- the modules and the count file
abbrev pub sources_in : HardenRequest → List (List ℕ) → Sources
sources_in request contents = record { parts = parts_of request.modules contents; counts = counts_in request contents }

-- keeping the text of the certificate and then the image, and printing the report
abbrev pub harden_plan : HardenRequest → Hardened → Plan
harden_plan request hardened = record {
  status = Done;
  keeps = (request.certificate, certificate_text hardened.certificate) ∷ (request.image, hardened.image) ∷ [];
  text = report_text hardened.program hardened.certificate hardened.verdict;
}

-- a plan for a program: it is hardened, with some certificate
pub record HardenPlans (request : HardenRequest) (built : Built) (plan : Plan) : Type 0 where
  pub hardened : Hardened
  pub is_hardened : IsHardened built.program hardened
  pub is_plan : plan ≡ harden_plan request hardened

-- a hardened program ends exactly as the linked tree does, its protects are the least, and its verdict is judged
pub record HardenedMeans (tree : Tree) (hardened : Hardened) : Type 0 where
  pub same_outcomes : SameOutcomes tree hardened.program
  pub least : AreLeast hardened
  pub constant_time : IsJudged hardened
  pub short : length hardened.image ≤ limit_of quantity.Image

pub record HardenMeans (request : HardenRequest) (contents : List (List ℕ)) (built : Built) (plan : Plan) : Type 0 where
  pub compiled : AreBuilt request.modules contents (counts_in request contents) built
  pub each : (hardened : Hardened) → IsHardened built.program hardened → HardenedMeans compiled.tree hardened

-- the modules are read, and then the count file where one is named; they are compiled, with the weights by the counts, and hardened
abbrev pub harden_staged : HardenRequest → Staged Built
harden_staged request = record {
  reads = map module_read request.modules ++ map counts_read (file_named request.counts);
  keeps = request.certificate ∷ request.image ∷ [];
  reading = others compiling_by (sources_in request);
  Plans = HardenPlans request;
  Means = HardenMeans request;
}

abbrev pub harden_job : HardenRequest → Job
harden_job request = staged_job (harden_staged request)

-- what is done, by the contents of the modules
abbrev pub HardenDoes : HardenRequest → List (List ℕ) → Plan → Type 0
HardenDoes request = Makes (contents_stage (harden_staged request).reading) (HardenPlans request)

-- ---- what is said

-- the modules are read and compiled, and where a count file is named each site has the weight by its count; the program is hardened; it ends exactly as the linked tree does, and its protects are the
-- least; the verdict says whether it is constant-time, and where it is, two runs of it from starts that agree in public are observed
-- alike. The text of the certificate and the image are kept, and nothing else is changed; the report is printed
pub record Hardens (request : HardenRequest) (old new : World) : Type 0 where
  pub contents : List (List ℕ)
  pub built : Built
  pub hardened : Hardened
  pub read : AreRead old.files (harden_job request).reads contents
  pub compiled : AreBuilt request.modules contents (counts_in request contents) built
  pub is_hardened : IsHardened built.program hardened
  pub same_outcomes : SameOutcomes compiled.tree hardened.program
  pub least : AreLeast hardened
  pub constant_time : IsJudged hardened
  pub short : length hardened.image ≤ limit_of quantity.Image
  pub kept : new.files
      ≡ with_file (with_file old.files request.certificate (certificate_text hardened.certificate)) request.image hardened.image
  pub image : FileIs new.files request.image hardened.image
  pub certificate : FileIs new.files request.certificate (certificate_text hardened.certificate)
  pub printed : new.sink.taken ≡ took old.sink.taken (report_text hardened.program hardened.certificate hardened.verdict)
