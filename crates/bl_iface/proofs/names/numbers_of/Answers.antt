use Rattle.std.proofs.Common.{◌-◌, arith}
use Rattle.bl_iface.proofs.NameLemmas.{directory_more}
use Rattle.bl_iface.proofs.names.numbers_of.Goals as goal

pub loop-left-preserved : goal.loop-left-preserved
loop-left-preserved c = record {
  within = omega arith;
  behind = directory_more c.args.exports.now c.loop-left.left (c.loop-left.left - 1) c.index-exports-left.result c.loop-left.numbers c.insert.new.self c.as_slice.result
      c.loop-left.invariant.within (omega arith) c.index-exports-left.is c.as_slice.ensures c.loop-left.invariant.behind c.in_ok-insert.ensures.updates;
}
