use Rattle.bl_link.proofs.SlotLemmas.{none_written, slots_more}
use Rattle.bl_link.proofs.segments.write_slots.Goals as goal

pub loop-i-init : goal.loop-i-init
loop-i-init c = none_written c.args.place c.args.cells.now.items

pub loop-i-preserved : goal.loop-i-preserved
loop-i-preserved c =
    slots_more c.args.spaces.now c.args.functions.now c.args.place c.loop-i.i c.number.result c.loop-i.cells.items c.args.cells.now.items c.loop-i-test.true c.requires c.loop-i.invariant c.number.ensures
