use Rattle.std.proofs.Common.{reverse}
use Rattle.bl_validate.specs.MayStand.{MayStand}
use Rattle.bl_validate.specs.Represents.{AreOpen, Represents}
use Rattle.bl_validate.proofs.ConstructLemmas.{lifted_push, if_ok_from}
use Rattle.bl_validate.proofs.stacks.Stacks.push.Goals as goal

pub returns : goal.returns
unfolding Represents
returns c = if_ok_from c.push.result _ _
    (λ done h open_ones. lifted_push (AreOpen (reverse c.args.self.now.frames.items) open_ones) (MayStand c.args.self.now.operands) (MayStand c.push.new.self) c.args.types.now h) c.push.ensures
