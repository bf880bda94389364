use Rattle.bl_leb.specs.Grammar.{byte}
use Rattle.bl_code.specs.Shapes.{Shape}
use Rattle.bl_code.specs.declared.error.CodeError.TheVariants.{Malformed}
use Rattle.bl_code.proofs.Immediates.{err_zero, not_zero_byte}
use Rattle.bl_code.proofs.Places.{passes, err_along}
use Rattle.bl_code.proofs.instruction.read_memory_size.Goals as goal

pub returns-in_err-reserved : goal.returns-in_err-reserved
returns-in_err-reserved c =
    passes _ c.args.bytes.now c.args.at c.from_residual.result _ c.from_residual.ensures.1
    (err_zero c.args.code c.args.bytes.now c.args.at Malformed c.requires.code (err_along byte (λ (s : Shape). byte 0) (λ _. 0) c.args.bytes.now c.args.at Malformed (λ s t h. h) c.in_err-reserved.ensures))

pub returns-then-reserved-ne0 : goal.returns-then-reserved-ne0
returns-then-reserved-ne0 c =
    err_zero c.args.code c.args.bytes.now c.args.at Malformed c.requires.code (not_zero_byte c.args.bytes.now c.args.at c.in_ok-reserved.place c.in_ok-reserved.reserved c.if-reserved-ne0.true c.in_ok-reserved.ensures)
