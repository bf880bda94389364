use Rattle.bl_format.proofs.WriterLemmas.{seq}
use Rattle.bl_format.proofs.definition.MemoryDefWrite.write.Goals as goal

pub returns : goal.returns
returns c = seq c.in_ok-write.ensures (seq c.in_ok-write-2.ensures (seq c.in_ok-write-3.ensures c.in_ok-write_numbered.ensures))
