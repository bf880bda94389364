use Rattle.bl_format.proofs.WriterLemmas.{seq}
use Rattle.bl_format.proofs.definition.ExportDefWrite.write.Goals as goal

pub returns : goal.returns
returns c = seq c.in_ok-write.ensures c.in_ok-write-2.ensures
