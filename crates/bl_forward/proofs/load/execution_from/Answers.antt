use Rattle.std.proofs.Common.{◌<◌, ◌*◌, ◌^◌, ◌∙◌, Some, ap, subst, sym}
use Rattle.bl_forward.proofs.ExecutionLemmas.{stored_within}
use Rattle.bl_forward.proofs.load.execution_from.Goals as goal

pub extend-value-requires : goal.extend-value-requires
extend-value-requires c =
    subst (λ k. c.in-Some-Stored.number < 2 ^ (8 * k)) c.width.ensures
    (stored_within c.args.layout.now.parts.now c.effective-from.result c.width.result c.args.before.now c.in-Some-Stored.number
    (sym c.found_behind.ensures ∙ c.in-Some-Stored.is ∙ ap (λ x. Some x) c.in-Some-Stored.field-0-is))
