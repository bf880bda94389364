use Rattle.std.proofs.Common.{◌≡◌, ◌++◌, ◌∙◌, List, ap, map, flat_map}
use Rattle.bl_rob.specs.CallResults.{outcome_in, seen_in, shown}
use Rattle.bl_rob.specs.Observations.{Observed}
use Rattle.bl_rob.specs.declared.directive.Observation.{Observation}
use Rattle.bl_rob.specs.declared.directive.Directive.{Directive}
use Rattle.bl_trace.specs.Observations.{observation_text}
use Rattle.bl_app.specs.SpecJob.{last_text, spec_plan, spec_status}
use Rattle.bl_build.specs.StageAnswers.{prepared_in}
use Rattle.bl_job.specs.WorkAnswers.{keep_in, plan_in}
use Rattle.bl_rob.proofs.ObservationLemmas.{observed_so}
use Rattle.bl_app.proofs.spec.observe_on.Goals as goal

pub returns : goal.returns
returns c =
    let prepared = c.args.speculation.now.prepared in
    let entered = prepared_in prepared in
    let new = c.observe.new.self in
    let both = observed_so 64 prepared.program c.args.rob.now.program prepared.function prepared.start c.as_slice.result.now (shown c.args.rob.now.machine)
    (shown new.machine) (seen_in c.in_ok-seen.seen) c.requires.program c.requires.opening c.in_ok-seen.ensures.seen in
    let same : new.program ≡ prepared.program = c.in_ok-seen.ensures.same ∙ c.requires.program in
    let refused = ap (λ (o : Observed Observation). o.refused) both.0 in
    let text = c.in_ok-text.ensures ∙ (λ i. flat_map observation_text (both.0 i).made ++ last_text entered (outcome_in (same i) (both.1 i)) (refused i)) in
    let plan : plan_in (record { status = c.spec_status.result; keeps = c.new.result; text = c.in_ok-text.text }) ≡ spec_plan (record { entered = entered; directives = c.as_slice.result.now })
    = λ i. record { status = (c.spec_status.ensures ∙ ap spec_status refused) i; keeps = map keep_in (c.new.ensures.items i); text = text i } in
    plan ∙ ap (λ (directives : List Directive). spec_plan (record { entered = entered; directives = directives })) c.as_slice.ensures
