use Rattle.std.proofs.Common.{◌≡◌, ◌∙◌, ap, map}
use Rattle.bl_base.specs.Runs.{memory_of, outcome_of}
use Rattle.bl_reduce.specs.Outcomes.{first_store}
use Rattle.bl_outcome.specs.Outcomes.{outcome_text}
use Rattle.bl_job.specs.WorkAnswers.{keep_in}
use Rattle.bl_app.proofs.interp.tell.Goals as goal

pub first_memories-requires : goal.first_memories-requires
first_memories-requires c = c.requires.start.fits.patches

pub returns : goal.returns
returns c =
    let outcome = outcome_of c.in_ok-run.run' in
    let memories : map memory_of c.as_slice.result.now ≡ (first_store c.args.linked.now c.args.invocation.now.start).memories = ap (map memory_of) c.as_slice.ensures ∙ c.in_ok-memories.ensures in
    let text = c.in_ok-text.ensures ∙ (λ i. outcome_text (c.as_slice-kinds.ensures i) (memories i) c.args.steps outcome) in
    record {
      outcome = outcome;
      within = c.in_ok-run.ensures.answers;
      is_plan = λ i. record { status = c.outcome_status-status.ensures i; keeps = map keep_in (c.new.ensures.items i); text = text i };
    }
