use Rattle.std.proofs.Common.{arith}
use Rattle.bl_layout.proofs.Placings.{running_small}
use Rattle.bl_layout.proofs.slots.Slots.at.Goals as goal

pub of-requires-clause-small : goal.of-requires-clause-small
of-requires-clause-small c = omega (arith, c.running.ensures, running_small c.args.layout.now.parts.now c.args.position c.requires.rules)
