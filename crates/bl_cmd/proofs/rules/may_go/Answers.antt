use Rattle.bl_cmd.proofs.Commands.{goes_each}
use Rattle.bl_cmd.proofs.rules.may_go.Goals as goal

pub returns : goal.returns
returns c =
    let each = goes_each c.args.place.now c.args.command in
    (λ t. each.0 (c.has_targets.ensures.0 t), λ h. c.has_targets.ensures.1 (each.1 h))
