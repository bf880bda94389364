use Rattle.std.proofs.Common.{◌+◌, ◌%◌, refl, arith}
use Rattle.std.proofs.lemmas.Result.{on_ok_weaker}
use Rattle.bl_leb.proofs.Unsigned.{appends_more}
use Rattle.bl_leb.proofs.push.+push_unsigned_bytes.Goals as goal

pub returns-clause-ok : goal.returns-clause-ok
returns-clause-ok t c =
    on_ok_weaker c.push_unsigned_bytes.result
    (appends_more c.args.v (c.args.v % 128 + 128) c.args.to.now.items c.push-2.new.self.items c.push_unsigned_bytes.new.to.items (omega arith) refl c.in_ok-push-2.ensures.items)
    c.push_unsigned_bytes.ensures.ok
