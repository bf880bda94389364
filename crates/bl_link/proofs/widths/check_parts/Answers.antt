use Rattle.bl_link.specs.Linkable.{IsSound}
use Rattle.bl_link.proofs.ReadElements.{all_next, all_read}
use Rattle.bl_link.proofs.widths.check_parts.Goals as goal

pub loop-part-preserved : goal.loop-part-preserved
loop-part-preserved c = all_next IsSound c.args.parts.now c.loop-part.part-index c.part-item.result c.loop-part-test.true c.part-item.is c.loop-part.invariant c.check_part.ensures

pub returns : goal.returns
returns c = all_read IsSound c.args.parts.now c.loop-part.part-index c.loop-part-test.false c.loop-part.invariant
