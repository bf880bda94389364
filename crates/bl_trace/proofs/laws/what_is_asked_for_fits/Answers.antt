use Rattle.bl_trace.proofs.StartFits.{answered_fits}
use Rattle.bl_trace.proofs.laws.what_is_asked_for_fits.Goals as goal

pub returns : goal.returns
returns c = answered_fits
