use Rattle.bl_counts.proofs.RecordedCounts.{recorded}
use Rattle.bl_counts.proofs.laws.recorded_counts_are_taken.Goals as goal

pub returns : goal.returns
returns c = recorded
