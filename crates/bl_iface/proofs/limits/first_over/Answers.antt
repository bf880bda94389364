use Rattle.std.proofs.lemmas.List.Elements.{All-more}
use Rattle.bl_base.specs.declared.quantity.Quantity.TheVariants.{Modules}
use Rattle.bl_iface.specs.JoinedProgram.{IsWithin}
use Rattle.bl_iface.proofs.ListTests.{all_done}
use Rattle.bl_iface.proofs.limits.first_over.Goals as goal

pub loop-sum-preserved : goal.loop-sum-preserved
loop-sum-preserved c =
    All-more IsWithin c.args.sums.now c.loop-sum.sum-index (record { which = Modules; value = 0; most = 0 }) c.loop-sum-test.true c.loop-sum.invariant c.if-sum.false

pub returns : goal.returns
returns c = all_done IsWithin c.args.sums.now c.loop-sum.sum-index c.loop-sum-test.false c.loop-sum.invariant
