-- `gen`: its job, and what is said where it is done.
use Rattle.std.specs.Prelude.{◌≡◌, ℕ, List, [], ◌∷◌, ◌++◌, length, codes}
use Rattle.std.specs.Fmt.{decimal}
use Rattle.bl_gen.specs.GeneratedModule.{made}
use Rattle.bl_outcome.specs.Lines.{line}
use Rattle.bl_report.specs.Reports.{summary_text}
use Rattle.bl_words.specs.Requests.{GenRequest}
use Rattle.bl_build.specs.BuildStages.{AreCompiled, Built, compiling}
use Rattle.bl_build.specs.HardenStage.{Hardened, IsHardened}
use Rattle.bl_app.specs.HardenJob.{HardenedMeans}
use Rattle.bl_job.specs.Jobs.{Plan, saying}
use Rattle.bl_build.specs.LoadStages.{Part}
use Rattle.bl_job.specs.StagedJobs.{Staged, all_read}
use Rattle.bl_job.specs.declared.status.Status.TheVariants.{Done}

-- the bytes of the module that is made
abbrev pub made_by : GenRequest → List ℕ
made_by request = made request.seed request.size

-- the module, under its name
abbrev pub made_part : GenRequest → Part
made_part request = record { name = codes "gen"; bytes = made_by request }

-- a number of bytes, and the report without its lines on protects
abbrev pub summary_of : ℕ → Hardened → List ℕ
summary_of count hardened = line (codes "module " ++ decimal count) ++ summary_text hardened.program hardened.verdict

abbrev pub gen_text : GenRequest → Hardened → List ℕ
gen_text request hardened = summary_of (length (made_by request)) hardened

-- printing the summary of the module's program, hardened
pub record GenPlans (request : GenRequest) (built : Built) (plan : Plan) : Type 0 where
  pub hardened : Hardened
  pub is_hardened : IsHardened built.program hardened
  pub is_plan : plan ≡ saying Done (gen_text request hardened)

-- the module is loaded and linked to a tree, which is lowered; hardened, the program ends exactly as the tree does, its protects are the least, its
-- verdict is judged, and its image is short enough
pub record GenMeans (request : GenRequest) (built : Built) : Type 0 where
  pub compiled : AreCompiled (codes "gen" ∷ []) (made_by request ∷ []) built
  pub each : (hardened : Hardened) → IsHardened built.program hardened → HardenedMeans compiled.tree hardened

-- no file is read; the module that is made is compiled and hardened, and its summary is printed, which is what `harden` prints of its bytes but for
-- the lines on protects
abbrev pub gen_staged : GenRequest → Staged Built
gen_staged request = record {
  reads = [];
  keeps = [];
  reading = all_read compiling (made_part request ∷ []);
  Plans = GenPlans request;
  Means = λ contents built plan. GenMeans request built;
}
