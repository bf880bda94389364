use Rattle.std.proofs.Common.{◌+◌, ◌==◌, ◌∙◌, arith, ap}
use Rattle.std.proofs.lemmas.List.{take_all}
use Rattle.std.specs.List.{count_by}
use Rattle.bl_text.proofs.LineSplits.{lacking_line, whole_lines}
use Rattle.bl_trace.proofs.trace.count_lines.Goals as goal

pub returns-in-len1-up : goal.returns-in-len1-up
returns-in-len1-up c =
    let all = take_all c.loop-byte.byte-index c.args.bytes.now (omega arith) in
    ap (λ n. n + 1) (c.loop-byte.invariant ∙ ap (count_by (λ b. b == 10)) all) ∙ lacking_line c.args.bytes.now (omega arith) c.if-last-ne10.true

pub returns-in_default-2 : goal.returns-in_default-2
returns-in_default-2 c =
    let all = take_all c.loop-byte.byte-index c.args.bytes.now (omega arith) in
    c.loop-byte.invariant ∙ ap (count_by (λ b. b == 10)) all ∙ whole_lines c.args.bytes.now (omega arith) c.if-last-ne10.false
