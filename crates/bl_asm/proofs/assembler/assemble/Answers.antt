use Rattle.std.proofs.Common.{◌+◌, ◌≤◌, arith}
use Rattle.bl_asm.proofs.Places.{assembled_more, read_place, read_small}
use Rattle.bl_asm.proofs.assembler.assemble.Goals as goal

pub aim_at-aim-requires-clause-small : goal.aim_at-aim-requires-clause-small
aim_at-aim-requires-clause-small c =
    read_small c.args.code.now c.in_ok-places.places.items (c.loop-k.k + 1) c.index.result.now c.in_ok-places.ensures c.requires (omega arith) c.index.ensures

pub loop-k-preserved : goal.loop-k-preserved
loop-k-preserved c =
    let end = read_place c.args.code.now c.in_ok-places.places.items (c.loop-k.k + 1) c.index.result.now c.in_ok-places.ensures (omega arith) c.index.ensures in
    assembled_more c.args.code.now c.loop-k.k c.index.result.now _ c.aim_at-aim.result c.loop-k.bytes.items c.encode.new.bytes.items _ c.loop-k-test.true
    end c.aim_at-aim.ensures c.in_ok-encode.ensures c.loop-k.invariant
