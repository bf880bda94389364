use Rattle.bl_counts.proofs.BarePrograms.{counted_alike}
use Rattle.bl_counts.proofs.laws.marks_are_not_counted.Goals as goal

pub returns : goal.returns
returns c = counted_alike
