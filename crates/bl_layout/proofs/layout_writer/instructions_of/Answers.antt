use Rattle.std.proofs.Common.{slice_index}
use Rattle.bl_layout.proofs.Tables.{code_more, item_there}
use Rattle.bl_layout.proofs.layout_writer.instructions_of.Goals as goal

pub push_at-requires-clause-there : goal.push_at-requires-clause-there
push_at-requires-clause-there c = item_there c.args.layout.now.parts.now c.as_slice-command-items.result.now c.loop-position.position _ c.as_slice-command-items.ensures c.loop-position-test.true

pub loop-position-preserved : goal.loop-position-preserved
loop-position-preserved c =
    code_more c.args.layout.now.parts.now (slice_index c.args.targets.now) c.loop-position.position _ c.loop-position.code.items c.push_at.new.code.items _
    (item_there c.args.layout.now.parts.now c.as_slice-command-items.result.now c.loop-position.position _ c.as_slice-command-items.ensures c.loop-position-test.true) c.in_ok-push_at.ensures c.loop-position.invariant
