use Rattle.std.proofs.Common.{arith}
use Rattle.bl_ct.proofs.DeclaredLists.{global_step}
use Rattle.bl_ct.specs.Facts.{GlobalFits}
use Rattle.bl_ct.proofs.GatheredLists.{gathers_begin, gathers_end}
use Rattle.bl_ct.proofs.facts.push_globals.Goals as goal

pub loop-number-init : goal.loop-number-init
loop-number-init c = gathers_begin c.args.globals.now GlobalFits c.args.all.now

pub loop-number-preserved : goal.loop-number-preserved
loop-number-preserved c =
    global_step c.args.globals.now c.loop-number.number _ c.args.all.now c.loop-number.all c.push_secret.new.all c.loop-number-test.true
    c.in_ok-push_secret.ensures c.loop-number.invariant

pub returns : goal.returns
returns c =
    let low = c.loop-number-test.false in
    gathers_end c.args.globals.now GlobalFits c.loop-number.number c.args.all.now c.loop-number.all (omega arith) c.loop-number.invariant
