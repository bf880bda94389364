use Rattle.std.proofs.Common.{unsigned_abs}
use Rattle.bl_leb.proofs.push.+push_signed_bytes.Given as goal

abbrev pub decreases-push_signed_bytes : goal.decreases-push_signed_bytes
decreases-push_signed_bytes l = unsigned_abs l.v
