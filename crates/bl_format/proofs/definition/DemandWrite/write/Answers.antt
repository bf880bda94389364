use Rattle.bl_format.proofs.WriterLemmas.{seq}
use Rattle.bl_format.proofs.definition.DemandWrite.write.Goals as goal

pub returns-in_ok-write-in-Result : goal.returns-in_ok-write-in-Result
returns-in_ok-write-in-Result c = rw c.in-Result.is (seq c.in_ok-write_byte-in-Result.ensures c.in_ok-write-in-Result.ensures)
