use Rattle.std.proofs.Common.{◌+◌, take, arith}
use Rattle.bl_format.proofs.WriterLemmas.{taken}
use Rattle.bl_format.proofs.LengthLemmas.{more_long}
use Rattle.bl_format.proofs.write.length_of_each.Goals as goal

pub loop-thing-preserved : goal.loop-thing-preserved
loop-thing-preserved g c =
    let xs = c.args.things.now in
    let i = c.loop-thing.thing-index in
    let x = c.thing-item.result in
    more_long (λ state y. state) (λ state. g.T.Write.written) (tt {0}) (take i xs) (take (i + 1) xs) x c.loop-thing.length c.spelled_length.result c.saturating_add-length.result
    (taken xs i x (omega arith) c.thing-item.is) c.loop-thing.invariant c.spelled_length.ensures c.saturating_add-length.ensures
