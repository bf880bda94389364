use Rattle.bl_app.proofs.CommandLemmas.{not_refused}
use Rattle.bl_app.proofs.laws.what_can_be_done_is_not_refused.Goals as goal

pub returns : goal.returns
returns c = not_refused
