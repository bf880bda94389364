use Rattle.bl_counts.proofs.RecordedCounts.{first_bad_is}
use Rattle.bl_counts.proofs.laws.the_first_bad_entry_is_told.Goals as goal

pub returns : goal.returns
returns c = first_bad_is
