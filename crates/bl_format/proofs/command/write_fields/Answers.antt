use Rattle.std.proofs.lemmas.Result.{on_ok_weaker}
use Rattle.bl_format.proofs.WriterLemmas.{seq}
use Rattle.bl_format.proofs.command.write_fields.Goals as goal

pub returns-in_ok-write-in-Set : goal.returns-in_ok-write-in-Set
returns-in_ok-write-in-Set c =
    let rest = rw c.arity.ensures at c.write_operands.ensures in
    rw c.in-Set.is (on_ok_weaker c.write_operands.result (λ added. seq c.in_ok-write-in-Set.ensures added) rest)
