use Rattle.std.proofs.Common.{◌<◌, ◌^◌, pos, arith, w64, SFits}
use Rattle.std.proofs.lemmas.Int.{ints}
use Rattle.std.proofs.Math.Facts.{to_z-of_z}
use Rattle.bl_code.proofs.BlockTypes.{index_same}
use Rattle.bl_code.proofs.types.read_type_index.Goals as goal

pub returns-in-Err : goal.returns-in-Err
returns-in-Err c x end h =
    let same = index_same c.args.bytes.now c.args.at c.in-Some.place end x c.in-Some.number c.in-Some.ensures.found h in
    let high = same.1.1 in
    let small : x < 2 ^ 32 = omega (arith, ints) in
    let wide : SFits w64 (pos x) = omega (arith, ints) in
    c.in-Err.ensures (rw (same.0, to_z-of_z wide) small)
