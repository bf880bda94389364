use Rattle.bl_code.proofs.Immediates.{none_numeric}
use Rattle.bl_code.proofs.instruction.read_numeric.Goals as goal

pub returns-in-None : goal.returns-in-None
returns-in-None c =
    none_numeric c.args.code c.args.bytes.now c.args.at c.requires.code
    (λ op e. let found = c.by_code.ensures.only op e in let none = c.in_default.is in cc)
    c.in-None.ensures.none
