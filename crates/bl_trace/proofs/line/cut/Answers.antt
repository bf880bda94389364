use Rattle.std.proofs.Common.{◌<◌, length, arith}
use Rattle.bl_text.proofs.LineSplits.{one_part, first_part}
use Rattle.bl_trace.proofs.line.cut.Goals as goal

pub returns-then-end-text : goal.returns-then-end-text
returns-then-end-text c = one_part _ c.args.text.now (omega arith)

pub returns : goal.returns
returns c =
    let inside : c.place_of-end.result < length c.args.text.now = omega arith in
    first_part _ c.args.text.now 0 c.place_of-end.result c.place_of-end.ensures.place inside
