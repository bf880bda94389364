use Rattle.std.proofs.Common.{refl}
use Rattle.bl_wasm.specs.Values.{u32}
use Rattle.bl_wasm.specs.Instructions.{instruction}
use Rattle.bl_code.specs.ReaderAnswers.{behind, IsAt}
use Rattle.bl_code.specs.Shapes.{Shape}
use Rattle.bl_code.specs.Laws.{u32_prefix_free}
use Rattle.bl_code.specs.declared.error.CodeError.TheVariants.{Malformed}
use Rattle.bl_code.proofs.Immediates.{before, number_part, err_indirect, not_zero}
use Rattle.bl_code.proofs.Places.{passes, stands, is_at, join, as_other, err_first, err_second, none_second}
use Rattle.bl_code.proofs.instruction.read_call_indirect.Goals as goal

pub returns-in_err-index : goal.returns-in_err-index
returns-in_err-index c =
    passes _ c.args.bytes.now c.args.at c.from_residual.result _ c.from_residual.ensures.1
    (err_indirect 0x11 c.args.bytes.now c.args.at Malformed refl (err_first u32 (λ (s : Shape). u32 0) number_part c.args.bytes.now c.args.at Malformed c.in_err-index.ensures))

pub returns-in_err-zero : goal.returns-in_err-zero
returns-in_err-zero c =
    passes _ c.args.bytes.now c.args.at c.from_residual-in_err-zero.result _ c.from_residual-in_err-zero.ensures.1
    (err_indirect 0x11 c.args.bytes.now c.args.at Malformed refl (err_second u32 u32 number_part (λ _. 0) c.args.bytes.now c.args.at c.in_ok-index.place c.in_ok-index.index Malformed u32_prefix_free c.in_ok-index.ensures c.in_err-zero.ensures))

pub returns-then-zero-ne0 : goal.returns-then-zero-ne0
returns-then-zero-ne0 c =
    err_indirect 0x11 c.args.bytes.now c.args.at Malformed refl (none_second {F = u32} {S = λ (s : Shape). u32 0} number_part (λ s. s) c.args.bytes.now c.args.at c.in_ok-index.place c.in_ok-index.index u32_prefix_free c.in_ok-index.ensures (not_zero c.args.bytes.now c.in_ok-index.place c.in_ok-zero.place c.in_ok-zero.zero c.if-zero-ne0.true c.in_ok-zero.ensures))

pub returns : goal.returns
returns c =
    let bytes = c.args.bytes.now in
    let zero : IsAt u32 bytes c.in_ok-index.place c.in_ok-zero.place 0 = rw c.if-zero-ne0.false at c.in_ok-zero.ensures in
    let first = stands u32 bytes c.args.at c.in_ok-index.place c.in_ok-index.index c.in_ok-index.ensures in
    let second = stands u32 bytes c.in_ok-index.place c.in_ok-zero.place 0 zero in
    let both = join bytes c.args.at c.in_ok-index.place c.in_ok-zero.place first second in
    is_at (behind instruction 0x11) bytes c.args.at c.in_ok-zero.place _ (as_other bytes c.args.at c.in_ok-zero.place (before 0x11) both)
