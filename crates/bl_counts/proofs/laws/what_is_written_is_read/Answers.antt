use Rattle.bl_counts.proofs.CountTexts.{reads_back}
use Rattle.bl_counts.proofs.laws.what_is_written_is_read.Goals as goal

pub returns : goal.returns
returns c = reads_back
