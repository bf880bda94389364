use Rattle.std.proofs.Common.{reverse}
use Rattle.bl_validate.specs.MayStand.{MayStand}
use Rattle.bl_validate.specs.Represents.{AreOpen, Represents}
use Rattle.bl_validate.proofs.ConstructLemmas.{lifted_pop}
use Rattle.bl_validate.proofs.stacks.Stacks.pop.Goals as goal

pub returns : goal.returns
unfolding Represents
returns c = λ open_ones. lifted_pop (AreOpen (reverse c.args.self.now.frames.items) open_ones) (MayStand c.args.self.now.operands) (MayStand c.pop.new.self) c.pop.result c.args.wanted.now c.pop.ensures
