use Rattle.bl_forward.proofs.FindLemmas.{finds_last}
use Rattle.bl_forward.proofs.laws.what_is_found.Goals as goal

pub returns : goal.returns
returns c = finds_last
