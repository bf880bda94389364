-- Weighing keeps the laws of stages, a weighed program is well-formed and has an image, and ends as its linked tree does.
use Rattle.bl_reduce.specs.Runnable.{runnable}
use Rattle.std.proofs.Common.{◌≡◌, ℕ, ◌^◌, ◌<◌, ◌≤◌, ◌==◌, Bool, true, false, nat_lt, List, length, Option, Some, None, refl, ap, sym, ◌∙◌, subst, arith}
use Rattle.std.specs.Prelude.{Result, Ok, Err}
use Rattle.std.specs.List.{All}
use Rattle.std.proofs.lemmas.Bool.{eq-eqb, lt-ltb, le-ltb, ltb-true, ne_eqb}
use Rattle.bl_base.specs.declared.number.Pos.{Pos}
use Rattle.bl_base.specs.declared.start.Start.{Start}
use Rattle.bl_wasm.specs.declared.linked.Tree.{Tree}
use Rattle.bl_program.specs.Programs.{IsProgram}
use Rattle.bl_program.specs.Rules.{IsWellFormed}
use Rattle.bl_program.specs.declared.definitions.ProgramParts.{ProgramParts as Program}
use Rattle.bl_program.specs.Widths.{HasWidths}
use Rattle.bl_format.specs.Image.{Image}
use Rattle.bl_format.proofs.ImageExistence.{some_image}
use Rattle.bl_lower.specs.Trees.{low_tree}
use Rattle.bl_lower.proofs.WellFormed.{facts, rules}
use Rattle.bl_counts.specs.WeighAnswers.{Weighs}
use Rattle.bl_counts.specs.CountFiles.{IsCountFile, count_file_of, counts_text}
use Rattle.bl_counts.specs.RunCounts.{bare, count_in, counts_of, first_bad, total, weighed}
use Rattle.bl_counts.specs.declared.counts.SiteCount.{SiteCount}
use Rattle.bl_counts.specs.declared.error.CountError.{CountError}
use Rattle.bl_counts.specs.declared.error.CountError.TheVariants as count
use Rattle.bl_counts.specs.declared.error.CountFileError.{CountFileError}
use Rattle.bl_counts.specs.declared.error.CountFileError.TheVariants as file
use Rattle.bl_counts.specs.declared.file.CountFile.{CountFile}
use Rattle.bl_counts.proofs.BarePrograms.{runs_unweighed, runs_weighed, same_length}
use Rattle.bl_counts.proofs.CountTexts.{reads_back}
use Rattle.bl_counts.proofs.RecordedCounts.{recorded as recorded_counts}
use Rattle.bl_counts.proofs.WeightedPrograms.{is_program, is_well_formed, small_weights}
use Rattle.bl_job.specs.Refusals.{Refusal}
use Rattle.bl_job.specs.Stages.{IsLawfulStage, IsTotalStage, at_first, at_second, chain}
use Rattle.bl_job.specs.WorkAnswers.{IsStaged, IsTold, Tells}
use Rattle.bl_job.specs.declared.refusal.WorkError.{WorkError}
use Rattle.bl_job.specs.declared.refusal.WorkError.TheVariants as error
use Rattle.bl_job.proofs.StageLemmas.{chain_lawful, chain_total, told_as, told_memory}
use Rattle.bl_build.specs.BuildStages.{AreCompilable, Built, lowering, sizing, without_image}
use Rattle.bl_build.specs.LoadStages.{loading, parts_of}
use Rattle.bl_build.specs.ProgramMeaning.{SameOutcomes}
use Rattle.bl_build.specs.WeightStages.{AreBuilt, HasBadCounts, IsCounted, IsOfProgram, IsWeighed, Sources, bad_counts, building_by, by_commands, by_position, by_total, compiling_by, refusal_of_count_file, counts_for, refusal_of_weighing, weighing}
use Rattle.bl_build.specs.declared.counts.CountFault.{CountFault}
use Rattle.bl_build.specs.declared.counts.CountFault.TheVariants.{Line, Commands, Site, Total}
use Rattle.bl_build.proofs.BuildLemmas.{HasImage, building_lawful, building_total, lowering_lawful, lowering_total, same_outcomes, sizing_lawful, sizing_total}
use Rattle.bl_build.proofs.ImagesExist.{IsOfParts, of_parts, widths}
use Rattle.bl_build.proofs.LoadLemmas.{loading_lawful}
use Rattle.bl_build.proofs.LoadTotal.{loading_total}

-- ---- the counts of a file

-- what is told of counts that are those of a program
told_by : (program : Program) (whole : CountFile) → whole.commands ≡ length program.commands → counts_for program (Ok whole) ≡ by_position whole.counts (first_bad program None whole.counts)
told_by program whole same = ap (by_commands program whole) (eq-eqb whole.commands (length program.commands) same)

-- no position is bad, and they are few enough
pub counts_told : (program : Program) (bytes : List ℕ) (counts : List SiteCount) → count_file_of bytes ≡ Ok (record { commands = length program.commands; counts = counts })
    → first_bad program None counts ≡ None → total counts < 2 ^ 32 → counts_for program (count_file_of bytes) ≡ Ok counts
counts_told program bytes counts read good few =
    ap (counts_for program) read ∙ (told_by program (record { commands = length program.commands; counts = counts }) refl
    ∙ (ap (by_position counts) good ∙ ap (by_total counts) (lt-ltb (total counts) (2 ^ 32) few)))

-- a position is bad
pub position_told : (program : Program) (bytes : List ℕ) (counts : List SiteCount) (at : Pos) → count_file_of bytes ≡ Ok (record { commands = length program.commands; counts = counts })
    → first_bad program None counts ≡ Some at → counts_for program (count_file_of bytes) ≡ Err (Site at.0)
position_told program bytes counts at read bad =
    ap (counts_for program) read ∙ (told_by program (record { commands = length program.commands; counts = counts }) refl ∙ ap (by_position counts) bad)

-- they are too many
pub total_told : (program : Program) (bytes : List ℕ) (counts : List SiteCount) (sum : ℕ) → count_file_of bytes ≡ Ok (record { commands = length program.commands; counts = counts })
    → first_bad program None counts ≡ None → total counts ≡ sum → 2 ^ 32 ≤ sum → counts_for program (count_file_of bytes) ≡ Err (Total sum)
total_told program bytes counts sum read good same many =
    ap (counts_for program) read ∙ (told_by program (record { commands = length program.commands; counts = counts }) refl
    ∙ (ap (by_position counts) good ∙ (ap (by_total counts) (le-ltb (total counts) (2 ^ 32) (subst (λ (n : ℕ). 2 ^ 32 ≤ n) (sym same) many)) ∙ ap (λ n. Err (Total n)) same)))

-- they are of another number of commands
pub commands_told : (program : Program) (bytes : List ℕ) (whole : CountFile) → count_file_of bytes ≡ Ok whole → (whole.commands ≡ length program.commands → ⊥)
    → counts_for program (count_file_of bytes) ≡ Err (Commands whole.commands)
commands_told program bytes whole read other = ap (counts_for program) read ∙ ap (by_commands program whole) (ne_eqb whole.commands (length program.commands) other)

pub counts_few : (program : Program) (whole : Result CountFile ℕ) (counts : List SiteCount) → counts_for program whole ≡ Ok counts → total counts < 2 ^ 32
counts_few program (Err number) counts e = cc
counts_few program (Ok whole) counts e = by (whole.commands == length program.commands) e
  where
    sum : (b : Bool) → nat_lt (total whole.counts) (2 ^ 32) ≡ b → by_total whole.counts b ≡ Ok counts → total counts < 2 ^ 32
    sum true lt same = let these : whole.counts ≡ counts = cc in subst (λ c. total c < 2 ^ 32) these (ltb-true (total whole.counts) (2 ^ 32) lt)
    sum false lt same = cc

    at_position : (o : Option Pos) → by_position whole.counts o ≡ Ok counts → total counts < 2 ^ 32
    at_position None same = sum (nat_lt (total whole.counts) (2 ^ 32)) refl same
    at_position (Some at_) same = cc

    by : (b : Bool) → by_commands program whole b ≡ Ok counts → total counts < 2 ^ 32
    by true same = at_position (first_bad program None whole.counts) same
    by false same = cc

-- the file of a run of a program weighs each one that is equal but for marks and weights
pub run_weighs : (program other : Program) (function : ℕ) (start : Start) (steps : ℕ) → IsWellFormed program → bare other ≡ bare program → steps < 2 ^ 32
    → IsWeighed (counts_text (length other.commands) (counts_of other function start steps)) program (weighed (counts_of other function start steps) program)
run_weighs program other function start steps rules same small =
    let counts = counts_of other function start steps in
    let recorded = recorded_counts program other function start steps rules same small in
    let as_many = same_length other program same in
    let few = rules.rule2.commands in
    let sum = recorded.few in
    let read = reads_back (length other.commands) counts (omega arith) recorded.each ∙ (λ i. Ok (record { commands = as_many i; counts = counts })) in
    record { counts = counts; are_told = counts_told program (counts_text (length other.commands) counts) counts read recorded.are_sites (omega arith); is_program = refl }

-- ---- the stage

module _ (bytes : List ℕ) where
  pub weighing_lawful : IsLawfulStage (weighing bytes)
  weighing_lawful = record {
    one_result = λ program a b p q. p.is_program ∙ (ap (λ counts. weighed counts program) (same_Ok (sym p.are_told ∙ q.are_told)) ∙ sym q.is_program);
    one_refusal = λ program r s h k. h.is_refusal ∙ (ap bad_counts (same_Err (sym h.wrong ∙ k.wrong)) ∙ sym k.is_refusal);
    not_both = λ program a r p h. let both : Ok p.counts ≡ Err h.fault = sym p.are_told ∙ h.wrong in cc;
  }
    where
      same_Ok : {a b : List SiteCount} → ◌≡◌ {A = Result (List SiteCount) CountFault} (Ok a) (Ok b) → a ≡ b
      same_Ok e = cc

      same_Err : {a b : CountFault} → ◌≡◌ {A = Result (List SiteCount) CountFault} (Err a) (Err b) → a ≡ b
      same_Err e = cc

  -- what is known of a program whose weighed programs have images
  pub record IsWeighable (program : Program) : Type 0 where
    pub facts : IsProgram program
    pub rules : IsWellFormed program
    pub widths : HasWidths program

  pub weighing_total : {Given : Program → Type 0} → IsTotalStage Given (weighing bytes)
  weighing_total = record { always = λ program given made refused. by program made refused (counts_for program (count_file_of bytes)) refl }
    where
      by : (program : Program) → ((weighted : Program) → IsWeighed bytes program weighted → ⊥) → ((refusal : Refusal) → HasBadCounts bytes program refusal → ⊥)
          → (found : Result (List SiteCount) CountFault) → counts_for program (count_file_of bytes) ≡ found → ⊥
      by program made refused (Ok counts) e = made (weighed counts program) (record { counts = counts; are_told = e; is_program = refl })
      by program made refused (Err fault) e = refused (bad_counts fault) (record { fault = fault; wrong = e; is_refusal = refl })

-- ---- weighed programs

weighed_widths : (program : Program) (counts : List SiteCount) → total counts < 2 ^ 32 → HasWidths program → HasWidths (weighed counts program)
weighed_widths program counts few w = record {
  constants = w.constants;
  rows = w.rows;
  exports = w.exports;
  names = w.names;
  weights = small_weights program counts few;
}

weighed_image : (bytes : List ℕ) (program weighted : Program) → IsWeighable bytes program → IsWeighed bytes program weighted → HasImage weighted
weighed_image bytes program weighted given is =
    let few = counts_few program (count_file_of bytes) is.counts is.are_told in
    subst HasImage (sym is.is_program)
    (some_image (weighed is.counts program) (is_program (count_in is.counts) program given.facts) (is_well_formed program is.counts few given.rules)
    (weighed_widths program is.counts few given.widths))

pub weighed_rules : (bytes : List ℕ) (program weighted : Program) → IsWellFormed program → IsWeighed bytes program weighted → IsWellFormed weighted
weighed_rules bytes program weighted given is =
    subst IsWellFormed (sym is.is_program) (is_well_formed program is.counts (counts_few program (count_file_of bytes) is.counts is.are_told) given)

-- it ends as the tree does
weighed_outcomes : (tree : Tree) (program : Program) (counts : List SiteCount) → SameOutcomes tree program → SameOutcomes tree (weighed counts program)
weighed_outcomes tree program counts same = record {
  follows = λ function start outcome n h. let f = same.follows function start outcome n h in (f.0, runs_weighed program counts function start f.0 outcome f.1, f.2, f.3);
  comes_from = λ function start outcome m h. same.comes_from function start outcome m (runs_unweighed program counts function start m outcome h);
  source_unique = same.source_unique;
  plain_unique = λ function start o p m k h i.
      same.plain_unique function start o p m k (runs_unweighed program counts function start m o h) (runs_unweighed program counts function start k p i);
}

-- ---- building

pub building_by_lawful : (counts : Option (List ℕ)) → IsLawfulStage (building_by counts)
building_by_lawful None = building_lawful
building_by_lawful (Some bytes) =
    chain_lawful lowering (chain (weighing bytes) sizing) lowering_lawful (chain_lawful (weighing bytes) sizing (weighing_lawful bytes) sizing_lawful)

building_by_total : (counts : Option (List ℕ)) → IsTotalStage IsOfParts (building_by counts)
building_by_total None = building_total
building_by_total (Some bytes) =
    chain_total IsOfParts (IsWeighable bytes) lowering (chain (weighing bytes) sizing) lowering_total
    (chain_total (IsWeighable bytes) HasImage (weighing bytes) sizing (weighing_total bytes) sizing_total (λ program weighted given is. weighed_image bytes program weighted given is))
    (λ tree program given lowered. subst (IsWeighable bytes) (sym lowered.0) (record { facts = facts tree given.linked; rules = rules tree given.linked lowered.1; widths = widths tree given lowered.1 }))

pub compiling_by_lawful : IsLawfulStage compiling_by
compiling_by_lawful =
    let laws = λ (sources : Sources). chain_lawful loading (building_by sources.counts) loading_lawful (building_by_lawful sources.counts) in
    record {
      one_result = λ sources. (laws sources).one_result sources.parts;
      one_refusal = λ sources. (laws sources).one_refusal sources.parts;
      not_both = λ sources. (laws sources).not_both sources.parts;
    }

pub compiling_by_total : IsTotalStage (λ sources. AreCompilable sources.parts) compiling_by
compiling_by_total = record {
  always = λ sources.
      (chain_total AreCompilable IsOfParts loading (building_by sources.counts) (record { always = λ parts given made refused. loading_total.always parts given.loadable made refused })
      (building_by_total sources.counts) of_parts).always sources.parts;
}

-- ---- what functions answer

module _ (sources : Sources) where
  -- what comes of the tree that is loaded
  pub compiled_behind : (tree : Tree) (result : Result Program WorkError) → loading.Passes sources.parts tree
      → IsStaged (without_image (building_by sources.counts)) (λ (program : Program). program) tree result → IsStaged (without_image compiling_by) (λ (program : Program). program) sources result
  compiled_behind tree (Ok program) passed h = (h.0, (tree, passed, h.1))
  compiled_behind tree (Err (error.Refused refusal)) passed h = at_second tree passed h
  compiled_behind tree (Err error.Memory) passed h = tt

  -- what is refused of loading it
  pub refused_behind : (e : WorkError) → Tells (loading.Refuses sources.parts) e → IsStaged (without_image compiling_by) (λ (program : Program). program) sources (Err e)
  refused_behind (error.Refused refusal) h = at_first h
  refused_behind error.Memory h = tt

-- the counts of a file
module _ (bytes : List ℕ) (program : Program) where
  pub of_program : (whole : CountFile) → count_file_of bytes ≡ Ok whole → All (λ (one : SiteCount). one.count < 2 ^ 32) whole.counts → (result : Result (List SiteCount) WorkError)
      → IsOfProgram program whole result → IsCounted bytes program result
  of_program whole read small (Ok counts) is =
      (read ∙ (λ i. Ok (record { commands = is.0 i; counts = sym is.1 i })), subst (All (λ (one : SiteCount). one.count < 2 ^ 32)) (sym is.1) small)
  of_program whole read small (Err (error.Refused refusal)) is =
      record { fault = Commands whole.commands; wrong = commands_told program bytes whole read is.0; is_refusal = is.1 }
  of_program whole read small (Err error.Memory) is = tt

  pub of_bad_file : (e : CountFileError) → IsCountFile (count_file_of bytes) (Err e) → (w : WorkError) → IsTold (refusal_of_count_file e) w → Tells (HasBadCounts bytes program) w
  of_bad_file (file.Line number) read =
      told_as (bad_counts (Line number)) (HasBadCounts bytes program) (record { fault = Line number; wrong = ap (counts_for program) read; is_refusal = refl })
  of_bad_file file.Memory read = told_memory (HasBadCounts bytes program)

  -- what weighing by them gives
  module _ (counts these : List SiteCount) (same : these ≡ counts) (read : count_file_of bytes ≡ Ok (record { commands = length program.commands; counts = counts })) where
    pub is_weighed : (weighted : Program) → Weighs program these (Ok weighted) → IsWeighed bytes program weighted
    is_weighed weighted h =
        let good = subst (λ l. first_bad program None l ≡ None) same h.1 in
        let few = subst (λ l. total l < 2 ^ 32) same h.2 in
        record { counts = counts; are_told = counts_told program bytes counts read good few; is_program = h.0 ∙ ap (λ l. weighed l program) same }

    pub is_refused : (back : Program) (e : CountError) → Weighs program these (Err (back, e)) → (w : WorkError) → IsTold (refusal_of_weighing e) w → Tells (HasBadCounts bytes program) w
    is_refused back (count.Site at_) h =
        told_as (bad_counts (Site at_.0)) (HasBadCounts bytes program)
        (record { fault = Site at_.0; wrong = position_told program bytes counts at_ read (subst (λ l. first_bad program None l ≡ Some at_) same h.1); is_refusal = refl })
    is_refused back (count.Total sum) h =
        let good = subst (λ l. first_bad program None l ≡ None) same h.1.0 in
        let all = subst (λ l. total l ≡ sum) same h.1.1 in
        told_as (bad_counts (Total sum)) (HasBadCounts bytes program)
        (record { fault = Total sum; wrong = total_told program bytes counts sum read good all h.1.2; is_refusal = refl })
    is_refused back count.Memory h = told_memory (HasBadCounts bytes program)

-- ---- what it means

-- what is built of modules
pub are_built : (words contents : List (List ℕ)) (counts : Option (List ℕ)) (built : Built) → compiling_by.Passes (record { parts = parts_of words contents; counts = counts }) built
    → AreBuilt words contents counts built
are_built words contents None built p =
    let linked = p.1.2.2.2.can_run in
    let is = p.2.2.is_program ∙ p.2.1.0 in
    record {
      tree = p.0;
      loaded = p.1;
      linked = linked;
      few = p.2.1.1;
      weighed = is;
      image = subst (λ program. Image program built.image) (sym p.2.2.is_program) p.2.2.image;
      short = p.2.2.short;
      same_outcomes = subst (SameOutcomes p.0) (sym is) (same_outcomes p.0 (runnable p.0 linked));
    }
are_built words contents (Some bytes) built p =
    let linked = p.1.2.2.2.can_run in
    let low : p.2.0 ≡ low_tree p.0 = p.2.1.0 in
    let weighted = p.2.2 in
    let is : IsWeighed bytes (low_tree p.0) built.program = subst (λ program. IsWeighed bytes program built.program) low (subst (IsWeighed bytes p.2.0) (sym weighted.2.is_program) weighted.1) in
    record {
      tree = p.0;
      loaded = p.1;
      linked = linked;
      few = p.2.1.1;
      weighed = is;
      image = subst (λ program. Image program built.image) (sym weighted.2.is_program) weighted.2.image;
      short = weighted.2.short;
      same_outcomes = subst (SameOutcomes p.0) (sym is.is_program) (weighed_outcomes p.0 (low_tree p.0) is.counts (same_outcomes p.0 (runnable p.0 linked)));
    }

-- the program is well-formed
pub are_well_formed : (words contents : List (List ℕ)) (counts : Option (List ℕ)) (built : Built) → AreBuilt words contents counts built → IsWellFormed built.program
are_well_formed words contents None built is = subst IsWellFormed (sym is.weighed) (rules is.tree is.linked is.few)
are_well_formed words contents (Some bytes) built is = weighed_rules bytes (low_tree is.tree) built.program (rules is.tree is.linked is.few) is.weighed
