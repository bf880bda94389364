use Rattle.bl_counts.proofs.CountLengths.{file_short}
use Rattle.bl_counts.proofs.laws.count_files_are_short.Goals as goal

pub returns : goal.returns
returns c = file_short
