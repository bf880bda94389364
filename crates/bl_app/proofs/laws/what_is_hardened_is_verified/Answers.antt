use Rattle.bl_app.proofs.VerifiedFiles.{verified}
use Rattle.bl_app.proofs.laws.what_is_hardened_is_verified.Goals as goal

pub returns : goal.returns
returns c = verified
