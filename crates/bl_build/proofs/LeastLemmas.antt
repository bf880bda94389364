-- The protects of a hardened program pass, no set of less weight does, and each one has a reason; it ends as the program without them.
use Rattle.std.proofs.Common.{◌≡◌, ◌∙◌, ap, sym, subst, ℕ, Bool}
use Rattle.bl_program.specs.Programs.{IsProgram}
use Rattle.bl_program.specs.Rules.{IsWellFormed}
use Rattle.bl_program.specs.Sites.{is_protected}
use Rattle.bl_program.specs.declared.definitions.ProgramParts.{ProgramParts as Program}
use Rattle.bl_graph.specs.Certificates.{Certifies}
use Rattle.bl_graph.specs.Ranges.{AreInRange}
use Rattle.bl_graph.specs.declared.certificate.Certificate.{Certificate}
use Rattle.bl_graph.proofs.ChainLemmas.{none_lighter}
use Rattle.bl_graph.proofs.RangeLemmas.{in_range}
use Rattle.bl_transient.proofs.ChainsMet.{chain_met}
use Rattle.bl_transient.specs.Transient.{Passes}
use Rattle.bl_cut.specs.Marks.{protected}
use Rattle.bl_cut.proofs.MarkedPrograms.{is_program, is_well_formed, marks_are}
use Rattle.bl_cut.proofs.MarksAndPassing.{passes_on}
use Rattle.bl_witness.specs.Verdicts.{AreLightest}
use Rattle.bl_report.proofs.ProtectReasons.{has_reason}
use Rattle.bl_build.specs.HardenStage.{AreLeast, Hardened, IsHardened}
use Rattle.bl_wasm.specs.declared.linked.Tree.{Tree}
use Rattle.bl_cut.proofs.MarkedRuns.{run_back, run_same}
use Rattle.bl_build.specs.ProgramMeaning.{SameOutcomes}

-- what a certificate alone tells
told : (program : Program) (c : Certificate) → AreInRange program → Certifies program c → AreLightest program
told program c ranges certified = record { lightest = λ other sites p. none_lighter program ranges (is_protected program) c certified other sites (chain_met program other p) }

-- its protects are those of the least choice
module _ (bare : Program) (hardened : Hardened) (is : IsHardened bare hardened) where
  abbrev after : Program
  after = protected is.set bare

  same : is_protected after ≡ is.set
  same = λ i s. marks_are is.set bare is.least.sites s i

  pub protects_are : is_protected hardened.program ≡ is.set
  protects_are = ap is_protected is.is_program ∙ same

module _ (bare : Program) (facts : IsProgram bare) (rules : IsWellFormed bare) (hardened : Hardened) (is : IsHardened bare hardened) where
  pub well_formed : IsWellFormed hardened.program
  well_formed = subst IsWellFormed (sym is.is_program) (is_well_formed is.set bare rules)

  pub ranges_are : AreInRange hardened.program
  ranges_are = subst AreInRange (sym is.is_program) (in_range (after bare hardened is) (is_program is.set bare facts) (is_well_formed is.set bare rules))

  passes : Passes hardened.program (is_protected hardened.program)
  passes = subst (Passes hardened.program) (sym (protects_are bare hardened is)) (subst (λ p. Passes p is.set) (sym is.is_program) (passes_on is.set bare is.set is.least.passes))

  pub are_least : AreLeast hardened
  are_least = record {
    passes = passes;
    lightest = told hardened.program hardened.certificate ranges_are is.certified;
    reasons = has_reason hardened.program hardened.certificate ranges_are is.certified;
    well_formed = well_formed;
    certified = is.certified;
    alone = λ other keeps. told hardened.program other ranges_are keeps;
  }

-- what ends as the program without protects ends as the tree
pub ends_alike : (tree : Tree) (bare : Program) (set : ℕ → Bool) → SameOutcomes tree bare → SameOutcomes tree (protected set bare)
ends_alike tree bare set same = record {
  follows = λ function start outcome n h.
      let f = same.follows function start outcome n h in (f.0, run_back set bare function start f.0 outcome f.1, f.2, f.3);
  comes_from = λ function start outcome m h. same.comes_from function start outcome m (run_same set bare function start m outcome h);
  source_unique = same.source_unique;
  plain_unique = λ function start o p m k h i.
      same.plain_unique function start o p m k (run_same set bare function start m o h) (run_same set bare function start k p i);
}
