-- The count file that `run --counts` keeps, as `harden --counts` takes it; what is executed least.
use Rattle.std.specs.Prelude.{◌≡◌, ◌≤◌, ℕ, Bool, List, [], ◌∷◌, ◌++◌, length}
use Rattle.bl_base.specs.Quantity.{limit_of}
use Rattle.bl_base.specs.declared.quantity.Quantity.TheVariants as quantity
use Rattle.bl_wasm.specs.declared.linked.Tree.{Tree}
use Rattle.bl_program.specs.Sites.{is_protected}
use Rattle.bl_program.specs.declared.definitions.ProgramParts.{ProgramParts as Program}
use Rattle.bl_graph.specs.Ranges.{AreSites}
use Rattle.bl_transient.specs.Transient.{Passes}
use Rattle.bl_format.specs.Image.{Image}
use Rattle.bl_lower.specs.Trees.{low_tree}
use Rattle.bl_counts.specs.RunCounts.{IsFewer, bare, counts_of, executed, weighed as weighed_with}
use Rattle.bl_build.specs.BuildStages.{Built, HasLongImage}
use Rattle.bl_build.specs.EntryStages.{Entered, entering}
use Rattle.bl_build.specs.WeightStages.{IsWeighed}
use Rattle.bl_job.specs.Jobs.{Plan}
use Rattle.bl_job.specs.Refusals.{Refusal}
use Rattle.bl_words.specs.Requests.{HardenRequest, RunRequest}
use Rattle.bl_app.specs.HardenJob.{HardenDoes, harden_job}
use Rattle.bl_app.specs.RunJob.{counts_told}

-- the protects of a program pass on the linked tree's, and no other passing set of sites has fewer of the executed commands at its sites, or as many
-- and fewer sites
pub record AreExecutedLeast (tree : Tree) (positions : List ℕ) (program : Program) : Type 0 where
  pub passes : Passes (low_tree tree) (is_protected program)
  pub fewest : (rival : ℕ → Bool) → AreSites (low_tree tree) rival → Passes (low_tree tree) rival
      → IsFewer (low_tree tree) positions (is_protected program) rival

-- an image of the program of modules, but for marks and weights
pub record IsImageOf (built : Built) (image : List ℕ) : Type 0 where
  pub program : Program
  pub is_image : Image program image
  pub alike : bare program ≡ bare built.program

-- the positions of the commands that a run executes
abbrev pub executed_by : RunRequest → Entered → List ℕ
executed_by run entered = executed entered.entry.program entered.entry.function entered.start run.steps

-- the program of a linked tree with the weights by the counts of a run
abbrev pub weighed_by_run : RunRequest → Entered → Tree → Program
weighed_by_run run entered tree = weighed_with (counts_of entered.entry.program entered.entry.function entered.start run.steps) (low_tree tree)

-- `run --counts` of an image and a start file kept one file, under a word: the counts of its run. It is no longer than is read. With it behind the
-- contents of the modules `harden --counts` weighs their program by that run's counts, refuses nothing but that this program's image is too long, and
-- sets the protects that were executed least in that run
pub record AreTaken (run : RunRequest) (word image start : List ℕ) (told : Plan) (request : HardenRequest) (modules : List (List ℕ)) (tree : Tree) : Type 0 where
  pub entered : Entered
  pub passes : (entering run.export start).Passes image entered
  pub kept : told.keeps ≡ (word, counts_told entered run.steps) ∷ []
  pub short : length (counts_told entered run.steps) ≤ limit_of quantity.Counts
  pub weighed : IsWeighed (counts_told entered run.steps) (low_tree tree) (weighed_by_run run entered tree)
  pub refused : (refusal : Refusal) → (harden_job request).Against (modules ++ counts_told entered run.steps ∷ []) refusal
      → HasLongImage (weighed_by_run run entered tree) refusal
  pub least : (plan : Plan) (does : HardenDoes request (modules ++ counts_told entered run.steps ∷ []) plan)
      → AreExecutedLeast tree (executed_by run entered) does.plans.hardened.program
