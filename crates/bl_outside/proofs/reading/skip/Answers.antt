use Rattle.std.proofs.Common.{rules}
use Rattle.bl_outside.proofs.ReadTwice.{passed-more}
use Rattle.bl_outside.proofs.reading.skip.Goals as goal

pub loop-left-preserved : goal.loop-left-preserved
loop-left-preserved g c =
    (search rules, passed-more _ _ _ c.args.count c.loop-left.left c.in_ok-n.n c.read.new.buf c.loop-left.invariant.0 (search rules) (search rules) c.loop-left.invariant.1 c.in_ok-n.ensures.bytes.0)
