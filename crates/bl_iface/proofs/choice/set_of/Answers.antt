use Rattle.bl_iface.proofs.VariableSets.{given_more}
use Rattle.bl_iface.proofs.choice.set_of.Goals as goal

pub loop-x-preserved : goal.loop-x-preserved
loop-x-preserved c = given_more c.args.vars.now c.loop-x.x-index 0 c.loop-x.set c.insert.new.self c.loop-x-test.true c.loop-x.invariant c.in_ok-insert.ensures.updates
