use Rattle.std.proofs.Common.{◌+◌, drop, arith, rules, ◌∙◌, sym, ap}
use Rattle.bl_trace.proofs.HexBytes.{behind, one_byte, odd}
use Rattle.bl_trace.proofs.digits.read_hex.Goals as goal

pub loop-i-preserved : goal.loop-i-preserved
loop-i-preserved c =
    let one = one_byte c.loop-i.bytes.items c.args.word.now c.loop-i.i c.in-Some.byte (omega arith) (search rules) in (
      omega arith,
      c.loop-i.invariant.1 ∙ one ∙ ap (λ bytes. behind bytes (drop (c.loop-i.i + 2) c.args.word.now)) (sym c.in_ok-push.ensures.items),
    )

pub returns-then-i-word : goal.returns-then-i-word
returns-then-i-word c =
    sym (c.loop-i.invariant.1 ∙ odd c.loop-i.bytes.items c.args.word.now c.loop-i.i (omega arith) (omega arith))
