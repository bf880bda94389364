use Rattle.bl_twin.proofs.Comparisons.{never}
use Rattle.bl_twin.proofs.laws.safe_programs_never_differ.Goals as goal

pub returns : goal.returns
returns c = never
