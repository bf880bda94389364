-- Programs that are weighed by count files: they are well-formed, and the protects by the counts of runs are executed least in them.
use Rattle.std.proofs.Common.{◌≡◌, ◌≤◌, append-nil, subst, sym, ℕ, List, [], ◌∷◌, Option, Some, None}
use Rattle.bl_base.specs.Quantity.{limit_of}
use Rattle.bl_base.specs.declared.quantity.Quantity.TheVariants as quantity
use Rattle.bl_wasm.specs.Linked.{IsLinked}
use Rattle.bl_wasm.specs.declared.linked.Tree.{Tree}
use Rattle.bl_program.specs.Rules.{IsWellFormed}
use Rattle.bl_program.specs.Sites.{is_protected}
use Rattle.bl_program.specs.declared.definitions.ProgramParts.{ProgramParts as Program}
use Rattle.bl_transient.specs.Transient.{Passes}
use Rattle.bl_cut.specs.Least.{Least}
use Rattle.bl_lower.specs.Trees.{low_tree}
use Rattle.bl_lower.proofs.WellFormed.{rules}
use Rattle.bl_counts.specs.RunCounts.{IsFewer, bare, counts_of, executed, weighed as weighed_with}
use Rattle.bl_counts.specs.RecordedRuns.{AreAdded, Recorded, all_executed}
use Rattle.bl_counts.specs.declared.counts.SiteCount.{SiteCount}
use Rattle.bl_counts.proofs.FewestExecuted.{least_is_fewest, least_passes, one_added}
use Rattle.bl_build.specs.BuildStages.{command_count}
use Rattle.bl_build.specs.HardenStage.{Hardened, IsHardened}
use Rattle.bl_build.specs.WeightStages.{IsWeighedBy}
use Rattle.bl_build.proofs.LeastLemmas.{protects_are}
use Rattle.bl_build.proofs.WeightLemmas.{weighed_rules}
use Rattle.bl_app.specs.CountedHardening.{AreExecutedLeast}

pub weighed_by_rules : (counts : Option (List ℕ)) (tree : Tree) (program : Program) → IsLinked tree → command_count tree ≤ limit_of quantity.Commands
    → IsWeighedBy counts (low_tree tree) program → IsWellFormed program
weighed_by_rules None tree program linked few e = subst IsWellFormed (sym e) (rules tree linked few)
weighed_by_rules (Some bytes) tree program linked few is = weighed_rules bytes (low_tree tree) program (rules tree linked few) is

-- the protects of a program that is weighed by the counts of runs, added, are executed least in them
module _ (tree : Tree) (linked : IsLinked tree) (few : command_count tree ≤ limit_of quantity.Commands) (counts : List SiteCount) (program : Program)
    (is : program ≡ weighed_with counts (low_tree tree)) (hardened : Hardened) (h : IsHardened program hardened) where
  least : Least (weighed_with counts (low_tree tree)) h.set
  least = subst (λ p. Least p h.set) is h.least

  set_is : h.set ≡ is_protected hardened.program
  set_is = sym (protects_are program hardened h)

  pub executed_least : (other : Program) (runs : List Recorded) → bare other ≡ bare (low_tree tree) → AreAdded other runs counts
      → AreExecutedLeast tree (all_executed other runs) hardened.program
  executed_least other runs alike added = record {
    passes = subst (Passes (low_tree tree)) set_is (least_passes (low_tree tree) counts h.set least);
    fewest = λ rival sites passes.
        subst (λ set. IsFewer (low_tree tree) (all_executed other runs) set rival) set_is
        (least_is_fewest (low_tree tree) counts other alike runs added (rules tree linked few) h.set least rival sites passes);
  }

  -- of one run
  pub executed_least_once : (other : Program) (run : Recorded) → bare other ≡ bare (low_tree tree) → counts ≡ counts_of other run.function run.start run.steps
      → AreExecutedLeast tree (executed other run.function run.start run.steps) hardened.program
  executed_least_once other run alike same =
      subst (λ positions. AreExecutedLeast tree positions hardened.program) (append-nil (executed other run.function run.start run.steps))
      (executed_least other (run ∷ []) alike (subst (AreAdded other (run ∷ [])) (sym same) (one_added other run)))
