use Rattle.std.proofs.Common.{◌≡◌, ◌+◌, arith}
use Rattle.bl_asm.proofs.Places.{length_more, table_more}
use Rattle.bl_asm.proofs.assembler.places_of.Goals as goal

pub loop-instruction-preserved : goal.loop-instruction-preserved
loop-instruction-preserved c =
    let h = c.in_ok-encode.ensures in
    let g = c.in_ok-push-2.ensures in
    let so_far = c.loop-instruction.invariant in
    let code = c.args.code.now in
    let bytes = length_more code c.loop-instruction.instruction-index _ c.loop-instruction.bytes.items c.encode.new.bytes.items c.loop-instruction-test.true h so_far.bytes in
    record {
      bytes = bytes;
      count = omega (arith, g.len, so_far.count);
      each = table_more code c.loop-instruction.instruction-index c.len.result c.loop-instruction.places.items _ g.items so_far.count (omega (arith, c.encode.new.bytes.ok.0, c.len.ensures, bytes)) so_far.each;
    }
