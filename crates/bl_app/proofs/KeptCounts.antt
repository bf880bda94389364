-- The count file that `run --counts` keeps is taken by `harden --counts`.
use Rattle.std.proofs.Common.{◌≡◌, ◌<◌, ◌∙◌, ap, refl, subst, sym, ℕ, Bool, List, [], ◌∷◌, ◌++◌, Option, Some, None, arith}
use Rattle.bl_base.specs.Quantity.{limit_of}
use Rattle.bl_base.specs.declared.quantity.Quantity.TheVariants as quantity
use Rattle.bl_wasm.specs.declared.linked.Tree.{Tree}
use Rattle.bl_program.specs.Rules.{IsWellFormed}
use Rattle.bl_program.specs.declared.definitions.ProgramParts.{ProgramParts as Program}
use Rattle.bl_format.specs.Image.{Image}
use Rattle.bl_image.proofs.Prefixes.{one_program}
use Rattle.bl_lower.specs.Trees.{low_tree}
use Rattle.bl_lower.proofs.WellFormed.{rules}
use Rattle.bl_cut.specs.Marks.{protected}
use Rattle.bl_counts.specs.RecordedRuns.{Recorded}
use Rattle.bl_counts.specs.RunCounts.{bare as unmarked, counts_of}
use Rattle.bl_counts.proofs.BarePrograms.{bare_protected}
use Rattle.bl_counts.proofs.CountLengths.{file_short}
use Rattle.bl_build.specs.BuildStages.{Built, HasLongImage, command_count}
use Rattle.bl_build.specs.EntryStages.{Entered}
use Rattle.bl_build.specs.LoadStages.{AreShort, loading, parts_of}
use Rattle.bl_build.specs.WeightStages.{AreBuilt, IsWeighed, IsWeighedBy, Sources, compiling_by, counted_sources, weighing}
use Rattle.bl_build.proofs.LoadLemmas.{loading_lawful}
use Rattle.bl_build.proofs.WeightLemmas.{run_weighs, weighing_lawful}
use Rattle.bl_job.specs.Jobs.{Plan}
use Rattle.bl_job.specs.Refusals.{Refusal}
use Rattle.bl_job.specs.Stages.{at_first, at_second}
use Rattle.bl_words.specs.Requests.{AreInRange, HardenRequest, RunRequest}
use Rattle.bl_app.specs.CountedHardening.{AreExecutedLeast, AreTaken, IsImageOf, executed_by, weighed_by_run}
use Rattle.bl_app.specs.HardenJob.{HardenDoes, sources_in}
use Rattle.bl_app.specs.RunJob.{RunDoes, counts_kept, counts_told}
use Rattle.bl_app.proofs.CountLemmas.{executed_least_once}
use Rattle.bl_app.proofs.HardenLemmas.{sources_behind}

-- weights don't show in a program without them
bare_weighed : (counts : Option (List ℕ)) (program weighted : Program) → IsWeighedBy counts program weighted → unmarked weighted ≡ unmarked program
bare_weighed None program weighted e = ap unmarked e
bare_weighed (Some bytes) program weighted is = ap unmarked is.is_program

-- the image of a program with protects is one of the program
pub protected_image : (built : Built) (set : ℕ → Bool) (program : Program) (image : List ℕ) → program ≡ protected set built.program → Image program image → IsImageOf built image
protected_image built set program image e is = record { program = program; is_image = is; alike = ap unmarked e ∙ bare_protected set built.program }

module _ (words modules : List (List ℕ)) (counts : Option (List ℕ)) (built : Built) (is : AreBuilt words modules counts built) (bytes : List ℕ) (weighted : Program)
    (weighs : IsWeighed bytes (low_tree is.tree) weighted) where
  abbrev sources : Sources
  sources = counted_sources words modules bytes

  -- what is lowered of the modules is weighed so
  one_weighed : (tree : Tree) (program other : Program) → loading.Passes (parts_of words modules) tree → program ≡ low_tree tree → IsWeighed bytes program other → other ≡ weighted
  one_weighed tree program other loaded low passes =
      let same = low ∙ ap low_tree (loading_lawful.one_result (parts_of words modules) tree is.tree loaded is.loaded) in
      (weighing_lawful bytes).one_result (low_tree is.tree) other weighted (subst (λ p. IsWeighed bytes p other) same passes) weighs

  program_is : (made : Built) → compiling_by.Passes sources made → made.program ≡ weighted
  program_is made p = p.2.2.2.is_program ∙ one_weighed p.0 p.2.0 p.2.2.0 p.1 p.2.1.0 p.2.2.1

  -- what of them is refused
  refused_long : (refusal : Refusal) → compiling_by.Refuses sources refusal → HasLongImage weighted refusal
  refused_long refusal (at_first r) = absurd (loading_lawful.not_both (parts_of words modules) is.tree refusal is.loaded r)
  refused_long refusal (at_second tree loaded (at_first many)) =
      let same = loading_lawful.one_result (parts_of words modules) tree is.tree loaded is.loaded in
      let few = is.few in
      let more = subst (λ t. limit_of quantity.Commands < command_count t) same many.many in
      absurd (omega (arith, few, more))
  refused_long refusal (at_second tree loaded (at_second program low (at_first wrong))) =
      let same = low.0 ∙ ap low_tree (loading_lawful.one_result (parts_of words modules) tree is.tree loaded is.loaded) in
      absurd ((weighing_lawful bytes).not_both (low_tree is.tree) weighted refusal weighs (subst (λ p. (weighing bytes).Refuses p refusal) same wrong))
  refused_long refusal (at_second tree loaded (at_second program low (at_second other passes long))) =
      subst (λ p. HasLongImage p refusal) (one_weighed tree program other loaded low.0 passes) long

kept_one : (entered : Entered) (steps : ℕ) (counts : Option (List ℕ)) (word : List ℕ) → counts ≡ Some word → counts_kept entered steps counts ≡ (word, counts_told entered steps) ∷ []
kept_one entered steps counts word e = ap (counts_kept entered steps) e

module _ (run : RunRequest) (word image start : List ℕ) (told : Plan) (request : HardenRequest) (file : List ℕ) (modules : List (List ℕ)) (counts : Option (List ℕ)) (built : Built)
    (range : AreInRange run.steps) (named : run.counts ≡ Some word) (asked : request.counts ≡ Some file) (short : AreShort request.modules modules)
    (is : AreBuilt request.modules modules counts built) (of_modules : IsImageOf built image) (d : RunDoes run (image ∷ start ∷ []) told) where
  abbrev entered : Entered
  entered = d.made

  abbrev bytes : List ℕ
  bytes = counts_told entered run.steps

  abbrev low : Program
  low = low_tree is.tree

  same_program : entered.entry.program ≡ d.passes.0
  same_program = ap (λ e. e.program) d.passes.2.2.same_entry ∙ d.passes.2.1.same_program

  alike : unmarked entered.entry.program ≡ unmarked low
  alike =
      ap unmarked (same_program ∙ one_program d.passes.0 of_modules.program image d.passes.1.image of_modules.is_image) ∙ of_modules.alike
      ∙ bare_weighed counts low built.program is.weighed

  run_rules : IsWellFormed entered.entry.program
  run_rules = subst IsWellFormed (sym same_program) d.passes.1.rules

  weighs : IsWeighed bytes low (weighed_by_run run entered is.tree)
  weighs = run_weighs low entered.entry.program entered.entry.function entered.start run.steps (rules is.tree is.linked is.few) alike range.few

  behind : counted_sources request.modules modules bytes ≡ sources_in request (modules ++ bytes ∷ [])
  behind = sources_behind request.modules request.counts file (modules ++ bytes ∷ []) modules bytes asked refl short

  least : (plan : Plan) (does : HardenDoes request (modules ++ bytes ∷ []) plan) → AreExecutedLeast is.tree (executed_by run entered) does.plans.hardened.program
  least plan does =
      let of_these = program_is request.modules modules counts built is bytes (weighed_by_run run entered is.tree) weighs does.made
      (subst (λ s. compiling_by.Passes s does.made) (sym behind) does.passes) in
      let once : Recorded = record { function = entered.entry.function; start = entered.start; steps = run.steps } in
      executed_least_once is.tree is.linked is.few (counts_of entered.entry.program entered.entry.function entered.start run.steps) does.made.program of_these does.plans.hardened
      does.plans.is_hardened entered.entry.program once alike refl

  pub taken : AreTaken run word image start told request modules is.tree
  taken = record {
    entered = entered;
    passes = d.passes;
    kept = ap (λ plan. plan.keeps) d.plans.is_plan ∙ kept_one entered run.steps run.counts word named;
    short = file_short entered.entry.program entered.entry.function entered.start run.steps run_rules range.few;
    weighed = weighs;
    refused = λ refusal refuses.
        refused_long request.modules modules counts built is bytes (weighed_by_run run entered is.tree) weighs refusal
        (subst (λ s. compiling_by.Refuses s refusal) (sym behind) refuses);
    least = least;
  }
