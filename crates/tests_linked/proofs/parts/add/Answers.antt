use Rattle.std.proofs.Common.{arith}
use Rattle.tests_linked.proofs.PartLemmas.{more_parts}
use Rattle.tests_linked.proofs.parts.add.Goals as goal

pub returns : goal.returns
returns c =
    more_parts c.args.parts.now c.as_slice-else-len-ge8.result.now c.push.new.self c.args.part c.as_slice.result.now c.requires.parts c.requires.part
    (omega (arith, c.if-len-ge8.false, c.len.ensures)) c.as_slice-else-len-ge8.ensures c.as_slice.ensures (c.is_new.ensures c.if-not-is_new.false) c.in_ok-push.ensures.ok
