use Rattle.std.proofs.Common.{refl}
use Rattle.bl_wasm.specs.Instructions.{instruction}
use Rattle.bl_wasm.specs.Values.{u32, vec}
use Rattle.bl_code.specs.Laws.{u32_prefix_free}
use Rattle.bl_code.specs.ReaderAnswers.{behind}
use Rattle.bl_code.specs.Shapes.{Shape}
use Rattle.bl_code.specs.declared.error.CodeError.TheVariants.{Malformed}
use Rattle.bl_code.proofs.Immediates.{before, labels_part, number_part, err_labels}
use Rattle.bl_code.proofs.Places.{passes, stands, is_at, join, as_other, err_first, err_second}
use Rattle.bl_code.proofs.Unique.{vec_prefix_free}
use Rattle.bl_code.proofs.instruction.read_br_table.Goals as goal

pub returns-in_err-labels : goal.returns-in_err-labels
returns-in_err-labels c =
    passes _ c.args.bytes.now c.args.at c.from_residual.result _ c.from_residual.ensures.1
    (err_labels 0x0E c.args.bytes.now c.args.at _ refl (err_first (vec u32) (λ (s : Shape). u32 (number_part s)) labels_part c.args.bytes.now c.args.at _ c.in_err-labels.ensures))

pub returns-in_err-default : goal.returns-in_err-default
returns-in_err-default c =
    passes _ c.args.bytes.now c.args.at c.from_residual-in_err-default.result _ c.from_residual-in_err-default.ensures.1
    (err_labels 0x0E c.args.bytes.now c.args.at Malformed refl (err_second (vec u32) u32 labels_part number_part c.args.bytes.now c.args.at c.in_ok-labels.place c.in_ok-labels.labels Malformed (vec_prefix_free u32_prefix_free) c.in_ok-labels.ensures c.in_err-default.ensures))

pub returns : goal.returns
returns c =
    let bytes = c.args.bytes.now in
    let first = stands (vec u32) bytes c.args.at c.in_ok-labels.place c.in_ok-labels.labels c.in_ok-labels.ensures in
    let second = stands u32 bytes c.in_ok-labels.place c.in_ok-default.place c.in_ok-default.default c.in_ok-default.ensures in
    let both = join bytes c.args.at c.in_ok-labels.place c.in_ok-default.place first second in
    rw c.in_ok-targets.ensures (is_at (behind instruction 0x0E) bytes c.args.at c.in_ok-default.place _ (as_other bytes c.args.at c.in_ok-default.place (before 0x0E) both))
