use Rattle.bl_program.specs.Rules.{operands_of}
use Rattle.bl_cmd.proofs.Commands.{reads_each}
use Rattle.bl_cmd.proofs.rules.may_read.Goals as goal

pub returns : goal.returns
returns c =
    let each = reads_each c.args.place.now (operands_of c.args.command) in
    (λ t. each.0 (c.reads_all.ensures.0 t), λ h. c.reads_all.ensures.1 (each.1 h))
