use Rattle.std.proofs.lemmas.Result.{on_ok_weaker}
use Rattle.bl_gen.proofs.Numbers.{appended}
use Rattle.bl_gen.proofs.number.push_number.Goals as goal

pub returns : goal.returns
returns c = on_ok_weaker c.push_u64.result (appended c.args.to.now.items c.push_u64.new.to.items c.args.number c.ranges.number.fits) c.push_u64.ensures.ok
