use Rattle.std.proofs.Common.{◌≡◌, ◌∙◌, ◌++◌, [], ◌∷◌, ap, map, rules}
use Rattle.bl_base.specs.Runs.{outcome_of}
use Rattle.bl_trace.specs.Traces.{trace_text}
use Rattle.bl_build.specs.StageAnswers.{prepared_in}
use Rattle.bl_job.specs.WorkAnswers.{keep_in}
use Rattle.bl_app.specs.RunJob.{plain_text}
use Rattle.bl_app.specs.PredictJob.{alike_text, met_by}
use Rattle.bl_app.proofs.PredictLemmas.{planned_by}
use Rattle.bl_app.proofs.predict.tell_driven.Goals as goal

pub returns : goal.returns
returns c =
    let words = c.args.words.now in
    let driven = c.args.driven.now in
    let entered = prepared_in c.args.prepared.now in
    let text : c.extend_from_slice-2.new.self.items ≡ met_by driven ++ alike_text c.in_ok-safe.safe ++ plain_text entered words.steps (outcome_of driven.run)
    = search rules in
    let trace : c.in_ok-trace.trace.items ≡ trace_text driven.trace = c.in_ok-trace.ensures ∙ ap trace_text c.as_slice.ensures in
    let keeps : map keep_in c.in_ok-keeps.keeps.items ≡ (words.trace.now, trace_text driven.trace) ∷ []
    = c.in_ok-keeps.ensures ∙ ap (λ bytes. (words.trace.now, bytes) ∷ []) trace in
    planned_by words.steps words.trace.now entered driven c.requires.driven c.in_ok-safe.safe c.in_ok-safe.ensures _
    (λ i. record { status = c.outcome_status-status.ensures i; keeps = keeps i; text = text i })
