-- Protects don't show in a run of an image.
use Rattle.std.proofs.Common.{◌≡◌, ℕ, List, [], ◌∷◌, map, Option, Some, None, slice_get, refl, sym, ap, ◌∙◌, subst, length, ◌↔◌}
use Rattle.std.specs.List.{fold}
use Rattle.bl_base.specs.Bytes.{patched}
use Rattle.bl_base.specs.Runs.{IsWithin, Outcome}
use Rattle.bl_base.specs.declared.start.Start.{Start}
use Rattle.bl_program.specs.Outcomes.{first_memory, plain}
use Rattle.bl_program.specs.Rules.{IsWellFormed}
use Rattle.bl_program.specs.declared.definitions.MemoryDef.{MemoryDef}
use Rattle.bl_program.specs.declared.definitions.ProgramParts.{ProgramParts as Program}
use Rattle.bl_format.specs.Image.{Image}
use Rattle.bl_image.proofs.Prefixes.{one_program}
use Rattle.bl_trace.specs.StartFiles.{answer_of}
use Rattle.bl_cut.specs.Marks.{protected}
use Rattle.bl_cut.proofs.MarkedRuns.{run_back, run_same}
use Rattle.bl_outcome.specs.Outcomes.{outcome_text}
use Rattle.bl_build.specs.EntryStages.{Entered, IsImaged, function_named, kinds_of, pages_of}
use Rattle.bl_counts.specs.CountFiles.{counts_text}
use Rattle.bl_counts.specs.RunCounts.{bare as unmarked, counts_of}
use Rattle.bl_counts.proofs.BarePrograms.{bare_protected, counted_alike, same_length}
use Rattle.bl_app.specs.RunJob.{RunDoes, counts_kept, counts_told, plain_text}
use Rattle.bl_build.specs.HardenStage.{Hardened, IsHardened}
use Rattle.bl_job.specs.Jobs.{Plan}
use Rattle.bl_app.specs.Outcomes.{outcome_status}
use Rattle.bl_words.specs.Requests.{RunRequest}
use Rattle.bl_build.proofs.LeastLemmas.{well_formed}

-- the same outcome within so many steps
within_on : (F G : ℕ → Outcome → Type 0) → ((n : ℕ) (o : Outcome) → F n o ↔ G n o) → (steps : ℕ) (outcome : Option Outcome) → IsWithin F steps outcome → IsWithin G steps outcome
within_on F G each steps (Some outcome) h = (h.0, (each h.0 outcome).0 h.1, h.2)
within_on F G each steps None h = λ n outcome ends few. h n outcome ((each n outcome).1 ends) few

-- programs that are equal but for marks and weights are counted alike
counted_too : (p q : Program) → unmarked q ≡ unmarked p → (function : ℕ) (start : Start) (steps : ℕ)
    → counts_text (length p.commands) (counts_of p function start steps) ≡ counts_text (length q.commands) (counts_of q function start steps)
counted_too p q alike function start steps =
    let many = same_length q p alike in
    let counted = counted_alike p q function start steps alike in
    λ i. counts_text (sym many i) (sym counted i)

-- a count file is kept too
kept_too : (one other : Entered) (steps : ℕ) (counts : Option (List ℕ)) → counts_told one steps ≡ counts_told other steps → counts_kept one steps counts ≡ counts_kept other steps counts
kept_too one other steps None same = refl
kept_too one other steps (Some word) same = ap (λ bytes. (word, bytes) ∷ []) same

-- two programs that are alike but for their marks and weights, with the same plain runs
module _ (p q : Program) (functions : q.functions ≡ p.functions) (exports : q.exports ≡ p.exports) (memories : q.memories ≡ p.memories)
    (runs : (function : ℕ) (start : Start) (n : ℕ) (o : Outcome) → plain p function start n o ↔ plain q function start n o) (alike : unmarked q ≡ unmarked p)
    (request : RunRequest) (own other start : List ℕ) (is : Image p own) (imaged : IsImaged other q) (plan : Plan) where
  -- what is told of the one's image is told of the other's
  told_too : RunDoes request (own ∷ start ∷ []) plan → RunDoes request (other ∷ start ∷ []) plan
  told_too d =
      let there = d.passes in
      let program : there.0 ≡ p = one_program there.0 p own there.1.image is in
      let number = d.made.entry.function in
      let defined = d.made.entry.defined in
      let entry = there.2.2.same_entry in
      let entered : Entered = record { entry = record { program = q; function = number; defined = defined }; start = d.made.start } in
      let same : d.made.entry.program ≡ p = ap (λ e. e.program) entry ∙ there.2.1.same_program ∙ program in
      let pages : pages_of q ≡ pages_of there.2.0.program = ap (map (λ (memory : MemoryDef). memory.pages)) memories ∙ ap pages_of (sym (there.2.1.same_program ∙ program)) in
      let texts : (steps : ℕ) (outcome : Option Outcome) → plain_text d.made steps outcome ≡ plain_text entered steps outcome = λ steps outcome.
      ap (λ r. outcome_text defined.results (fold patched (map first_memory r) d.made.start.patches) steps outcome) (ap (λ r. r.memories) same ∙ sym memories) in
      let told : counts_told d.made request.steps ≡ counts_told entered request.steps =
      ap (λ r. counts_text (length r.commands) (counts_of r number d.made.start request.steps)) same ∙ counted_too p q alike number d.made.start request.steps in
      let kept : counts_kept d.made request.steps request.counts ≡ counts_kept entered request.steps request.counts = kept_too d.made entered request.steps request.counts told in
      record {
        made = entered;
        passes = (
          q,
          imaged,
          (
            entered.entry,
            record {
              same_program = refl;
              exported = ap (function_named request.export) exports ∙ sym (ap (λ r. function_named request.export r.exports) program) ∙ there.2.1.exported ∙ ap (λ e. Some e.function) (sym entry);
              defined = ap (λ l. slice_get l number) functions ∙ sym (ap (λ r. slice_get r.functions number) program) ∙ ap (λ e. slice_get there.0.functions e.function) entry
                  ∙ there.2.1.defined ∙ ap (λ e. Some e.defined) (sym entry);
            },
            record { same_entry = refl; read = (λ i. answer_of (kinds_of (entry i).defined) (pages i) start) ∙ there.2.2.read },
          ),
        );
        plans = record {
          outcome = d.plans.outcome;
          within = within_on (plain p number d.made.start) (plain q number d.made.start) (runs number d.made.start) request.steps d.plans.outcome
              (subst (λ r. IsWithin (plain r number d.made.start) request.steps d.plans.outcome) same d.plans.within);
          is_plan = d.plans.is_plan
              ∙ (λ i. record { status = outcome_status d.plans.outcome; keeps = kept i; text = texts request.steps d.plans.outcome i });
        };
      }

module _ (request : RunRequest) (bare : Program) (rules : IsWellFormed bare) (own start : List ℕ) (is : Image bare own) (hardened : Hardened) (h : IsHardened bare hardened) (plan : Plan) where
  abbrev after : Program
  after = protected h.set bare

  silent : (function : ℕ) (start : Start) (n : ℕ) (o : Outcome) → plain bare function start n o ↔ plain after function start n o
  silent function start n o = (run_back h.set bare function start n o, run_same h.set bare function start n o)

  after_imaged : IsImaged hardened.image after
  after_imaged = subst (IsImaged hardened.image) h.is_program (record { image = h.image; rules = well_formed bare is.is_program rules hardened h })

  pub shown : RunDoes request (own ∷ start ∷ []) plan → RunDoes request (hardened.image ∷ start ∷ []) plan
  shown d = told_too bare after refl refl refl silent (bare_protected h.set bare) request own hardened.image start is after_imaged plan d

  pub hidden : RunDoes request (hardened.image ∷ start ∷ []) plan → RunDoes request (own ∷ start ∷ []) plan
  hidden d =
      told_too after bare refl refl refl (λ function start n o. ((silent function start n o).1, (silent function start n o).0)) (sym (bare_protected h.set bare)) request hardened.image own start after_imaged.image (record { image = is; rules = rules }) plan d
