-- Directives and starts are one, and fit their function; why a trace file is refused.
use Rattle.std.proofs.Common.{◌≡◌, ℕ, ◌<◌, ◌≤◌, List, Some, refl, ap, sym, ◌∙◌, subst, arith, length}
use Rattle.std.specs.Prelude.{Ok, Err, slice_get}
use Rattle.bl_base.specs.Fits.{Fits}
use Rattle.bl_program.specs.Outcomes.{IsStart}
use Rattle.bl_trace.proofs.StartFits.{answered_fits}
use Rattle.bl_build.specs.EntryStages.{Entry, Finds, Starts, finding, kinds_of, pages_of, starting}
use Rattle.bl_job.specs.Refusals.{Refusal}
use Rattle.bl_build.specs.TraceStages.{Speculated, Traced, Traces, TracingRefuses, bad_directive, no_directive, speculating, program_speculating, starting_traced, too_many, tracing}
use Rattle.bl_job.specs.Stages.{IsLawfulStage, chain}
use Rattle.bl_build.proofs.EntryStageLemmas.{finding_lawful, starting_lawful}
use Rattle.bl_job.proofs.StageLemmas.{beside_lawful, chain_lawful, told_as, told_memory}
use Rattle.bl_base.specs.Quantity.{limit_of}
use Rattle.bl_base.specs.declared.quantity.Quantity.TheVariants as quantity
use Rattle.bl_text.specs.Lines.{lines_of}
use Rattle.bl_trace.specs.Traces.{IsTrace, trace_of}
use Rattle.bl_trace.specs.declared.error.TraceError.{TraceError}
use Rattle.bl_trace.specs.declared.error.TraceError.TheVariants as trace_reason
use Rattle.bl_build.specs.StageAnswers.{IsTraced, refusal_of_trace}
use Rattle.bl_job.specs.WorkAnswers.{IsTold}
use Rattle.bl_job.specs.declared.refusal.WorkError.{WorkError}

-- ---- trace files

-- an error of reading a trace file is why it is refused
pub not_traced : (bytes : List ℕ) (e : TraceError) → length (lines_of bytes) ≤ limit_of quantity.Directives → IsTrace (trace_of bytes) (Err e)
    → (w : WorkError) → IsTold (refusal_of_trace e) w → IsTraced bytes (Err w)
not_traced bytes (trace_reason.Line number) few is = told_as _ (TracingRefuses bytes) (no_directive number few is refl)
not_traced bytes trace_reason.Memory few is = told_memory (TracingRefuses bytes)

one_side : (n most : ℕ) → most < n → n ≤ most → ⊥
one_side n most lt le = omega arith

module _ (bytes : List ℕ) where
  one_trace : (entry : Entry) (a b : Traced) → Traces bytes entry a → Traces bytes entry b → a ≡ b
  one_trace entry a b s t =
      let entries = s.same_entry ∙ sym t.same_entry in
      let read : Ok a.directives ≡ Ok b.directives = sym s.read ∙ t.read in
      let directives : a.directives ≡ b.directives = cc in
      λ i. record { entry = entries i; directives = directives i }

  trace_refusal : (a b : Refusal) → TracingRefuses bytes a → TracingRefuses bytes b → a ≡ b
  trace_refusal a b (too_many lt e) (too_many _ f) = e ∙ sym f
  trace_refusal a b (too_many lt e) (no_directive line le read f) = absurd (one_side _ _ lt le)
  trace_refusal a b (no_directive line le read e) (too_many lt f) = absurd (one_side _ _ lt le)
  trace_refusal a b (no_directive line le read e) (no_directive other _ read' f) =
      let same : Err line ≡ Err other = sym read ∙ read' in
      let number : line ≡ other = cc in
      e ∙ (ap bad_directive number ∙ sym f)

  trace_not_both : (entry : Entry) (a : Traced) (r : Refusal) → Traces bytes entry a → TracingRefuses bytes r → ⊥
  trace_not_both entry a r t (too_many lt e) = one_side _ _ lt t.few
  trace_not_both entry a r t (no_directive line le read e) = let no : Ok a.directives ≡ Err line = sym t.read ∙ read in cc

  pub tracing_lawful : IsLawfulStage (tracing bytes)
  tracing_lawful = record { one_result = one_trace; one_refusal = λ entry. trace_refusal; not_both = trace_not_both }

pub program_speculating_lawful : (export trace start : List ℕ) → IsLawfulStage (program_speculating export trace start)
program_speculating_lawful export trace start =
    chain_lawful (finding export) (chain (tracing trace) (starting_traced start)) (finding_lawful export)
    (chain_lawful (tracing trace) (starting_traced start) (tracing_lawful trace) (beside_lawful _ (starting start) _ (starting_lawful start)))

-- the start that is asked for fits its function
module _ (export trace start image : List ℕ) (s : Speculated) (prepared : (speculating export trace start).Passes image s) where
  abbrev entry : Entry
  entry = s.entered.entry

  pub start_fits : IsStart entry.program entry.function s.entered.start
  start_fits =
      let behind = prepared.2 in
      let found : Finds export prepared.0 behind.0 = behind.1 in
      let traced = behind.2.0 in
      let traces : Traces trace behind.0 traced = behind.2.1 in
      let started = behind.2.2 in
      let starts : Starts start traced.entry started.0 = started.1 in
      let entries : entry ≡ started.0.entry = ap (λ s. s.entered.entry) started.2 in
      let same : entry ≡ behind.0 = entries ∙ starts.same_entry ∙ traces.same_entry in
      let exists : slice_get behind.0.program.functions behind.0.function ≡ Some behind.0.defined
      = subst (λ p. slice_get p.functions behind.0.function ≡ Some behind.0.defined) (sym found.same_program) found.defined in
      record {
        defined = entry.defined;
        exists = subst (λ (e : Entry). slice_get e.program.functions e.function ≡ Some e.defined) (sym same) exists;
        fits = subst (λ (e : Entry). Fits (kinds_of e.defined) (pages_of e.program) s.entered.start) (sym (entries ∙ starts.same_entry))
            (subst (Fits (kinds_of traced.entry.defined) (pages_of traced.entry.program)) (sym (ap (λ s. s.entered.start) started.2))
            (answered_fits (kinds_of traced.entry.defined) (pages_of traced.entry.program) start started.0.start starts.read));
      }
