use Rattle.bl_app.proofs.CommandLemmas.{one_refusal}
use Rattle.bl_app.proofs.laws.one_refusal.Goals as goal

pub returns : goal.returns
returns c = one_refusal
