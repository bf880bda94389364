use Rattle.std.proofs.Common.{◌+◌, take, arith}
use Rattle.bl_format.proofs.WriterLemmas.{more_added, taken}
use Rattle.bl_format.proofs.write.write_each.Goals as goal

pub loop-thing-preserved : goal.loop-thing-preserved
loop-thing-preserved g c =
    let xs = c.args.things.now in
    let i = c.loop-thing.thing-index in
    let x = c.thing-item.result in
    more_added (λ state y. state) (λ state. g.T.Write.written) (tt {0}) (take i xs) (take (i + 1) xs) x c.args.to.now.items c.loop-thing.to.items c.write.new.to.items (taken xs i x (omega arith) c.thing-item.is) c.loop-thing.invariant c.in_ok-write.ensures
