use Rattle.bl_format.proofs.LengthLemmas.{none_long, two}
use Rattle.bl_format.proofs.command.length_of_fields.Goals as goal

pub returns-in-Set : goal.returns-in-Set
returns-in-Set c =
    let rest = rw c.arity.ensures at c.length_of_operands.ensures in
    rw c.in-Set.is (two c.spelled_length-front.ensures rest c.saturating_add.ensures)

pub returns-in-Ret : goal.returns-in-Ret
returns-in-Ret c = rw c.in-Ret.is none_long
