use Rattle.bl_validate.specs.MayStand.{MayStand}
use Rattle.bl_validate.proofs.CoverLemmas.{covers_these}
use Rattle.bl_validate.proofs.operands.Operands.of.Goals as goal

pub returns : goal.returns
unfolding MayStand
returns c = λ s. rw c.new.ensures.items (covers_these c.args.types.now s)
