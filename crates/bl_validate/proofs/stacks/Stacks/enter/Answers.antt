use Rattle.std.proofs.Common.{sym, subst, ◌↔◌}
use Rattle.bl_validate.specs.MayStand.{MayStand}
use Rattle.bl_validate.specs.Represents.{Represents}
use Rattle.bl_validate.proofs.ConstructLemmas.{entered}
use Rattle.bl_validate.proofs.stacks.Stacks.enter.Goals as goal

pub returns : goal.returns
unfolding Represents
returns c = rw (c.in_ok-push.ensures.items, c.replace-below.ensures.after)
    (entered c.args.self.now.frames.items (record { construct = c.args.construct; below = c.replace-below.result }) (MayStand c.args.self.now.operands) (MayStand c.of.result) c.of.ensures
    (λ s. subst (λ o. MayStand o s ↔ MayStand c.args.self.now.operands s) (sym c.replace-below.ensures.value) (λ x. x, λ x. x)))
