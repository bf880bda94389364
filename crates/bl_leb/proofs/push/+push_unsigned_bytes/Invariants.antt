use Rattle.bl_leb.proofs.push.+push_unsigned_bytes.Given as goal

abbrev pub decreases-push_unsigned_bytes : goal.decreases-push_unsigned_bytes
decreases-push_unsigned_bytes l = l.v
