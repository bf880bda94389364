use Rattle.bl_iface.proofs.NameLemmas.{names_more}
use Rattle.bl_iface.proofs.names.names_of.Goals as goal

pub loop-one-preserved : goal.loop-one-preserved
loop-one-preserved c = names_more _ _ _ _ _ c.as_slice.result c.loop-one-test.true c.one-item.is c.as_slice.ensures c.loop-one.invariant c.in_ok-insert.ensures.updates
