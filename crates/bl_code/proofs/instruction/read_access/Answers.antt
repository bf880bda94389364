use Rattle.bl_code.specs.declared.error.CodeError.TheVariants.{Malformed}
use Rattle.bl_code.proofs.Places.{passes}
use Rattle.bl_code.proofs.Immediates.{err_access, none_access}
use Rattle.bl_code.proofs.instruction.read_access.Goals as goal

pub returns-in_err-argument : goal.returns-in_err-argument
returns-in_err-argument c =
    passes _ c.args.bytes.now c.args.at c.from_residual.result _ c.from_residual.ensures.1
    (err_access c.args.code c.args.bytes.now c.args.at Malformed c.requires.code c.in_err-argument.ensures)

pub returns-in-None : goal.returns-in-None
returns-in-None c x end h =
    none_access c.args.code c.requires.code (λ kind e. let found = c.by_code.ensures.only kind e in let none = c.in_default.is in cc) c.in-None.ensures.none x _ h.spelled
