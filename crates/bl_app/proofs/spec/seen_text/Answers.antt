use Rattle.std.proofs.Common.{◌++◌, ◌∙◌, ap, flat_map}
use Rattle.bl_trace.specs.Observations.{observation_text}
use Rattle.bl_app.proofs.spec.seen_text.Goals as goal

pub returns : goal.returns
returns c =
    let first = c.in_ok-text.ensures ∙ ap (flat_map observation_text) c.as_slice.ensures in
    let last = c.deref.ensures.value ∙ c.in_ok-last.ensures in
    c.in_ok-extend_from_slice.ensures.items ∙ (λ i. first i ++ last i)
