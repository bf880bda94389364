use Rattle.std.proofs.Common.{arith}
use Rattle.bl_wasm.specs.Values.{each}
use Rattle.bl_wasm.specs.Sections.{custom_section}
use Rattle.bl_decode.proofs.Tails.{end_tail, tail_err_customs, none_end}
use Rattle.bl_decode.proofs.chain.EndTail.read.Goals as goal

pub returns-in_err-end : goal.returns-in_err-end
returns-in_err-end c =
    tail_err_customs (λ (x : Unit {0}). each custom_section) end_tail
    c.args.bytes.now c.args.at c.args.customs.now c.read_customs.new.customs c.read_customs.new.customs c.from_residual.result _ c.from_residual.ensures.1 c.in_err-end.ensures

pub returns-then-end-bytes : goal.returns-then-end-bytes
returns-then-end-bytes c = λ _. none_end c.args.bytes.now c.args.at c.in_ok-end.end c.args.customs.now c.read_customs.new.customs c.in_ok-end.ensures (omega arith)
