use Rattle.bl_forward.proofs.ForwardPairs.{forwards_hide}
use Rattle.bl_forward.proofs.laws.secret_globals.Goals as goal

pub returns : goal.returns
returns c = forwards_hide
