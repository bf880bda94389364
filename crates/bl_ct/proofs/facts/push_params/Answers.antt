use Rattle.std.proofs.Common.{arith}
use Rattle.bl_ct.proofs.DeclaredLists.{param_step}
use Rattle.bl_ct.specs.Facts.{ParamFits}
use Rattle.bl_ct.proofs.GatheredLists.{gathers_begin, gathers_end}
use Rattle.bl_ct.proofs.facts.push_params.Goals as goal

pub loop-place-init : goal.loop-place-init
loop-place-init c = gathers_begin c.args.params.now (ParamFits c.args.function c.args.first) c.args.all.now

pub loop-place-preserved : goal.loop-place-preserved
loop-place-preserved c =
    param_step c.args.function c.args.first c.args.params.now c.loop-place.place _ c.args.all.now c.loop-place.all c.push_secret.new.all c.loop-place-test.true
    c.in_ok-push_secret.ensures c.loop-place.invariant

pub returns : goal.returns
returns c =
    let low = c.loop-place-test.false in
    gathers_end c.args.params.now (ParamFits c.args.function c.args.first) c.loop-place.place c.args.all.now c.loop-place.all (omega arith) c.loop-place.invariant
