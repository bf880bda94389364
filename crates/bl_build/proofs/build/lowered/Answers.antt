use Rattle.std.proofs.Common.{◌≤◌, length, subst}
use Rattle.bl_base.specs.Quantity.{limit_of}
use Rattle.bl_base.specs.declared.quantity.Quantity.TheVariants as quantity
use Rattle.bl_build.proofs.build.lowered.Goals as goal

pub returns-in-Ok : goal.returns-in-Ok
returns-in-Ok c = (c.in-Ok.ensures, subst (λ program. length program.commands ≤ limit_of quantity.Commands) c.in-Ok.ensures c.program-rules.ensures.rules.rule2.commands)
