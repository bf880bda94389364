use Rattle.std.proofs.Common.{◌<◌, ◌+◌, ◌-◌, ◌/◌, length, arith}
use Rattle.bl_program.proofs.Totals.{found_middle, before_more, behind_more, none_between}
use Rattle.bl_program.proofs.weights.listed.Goals as goal

pub returns-then-found-at : goal.returns-then-found-at
returns-then-found-at c =
    let order = c.loop-low.invariant.order in
    let within = c.loop-low.invariant.within in
    let lt : c.loop-low.low + (c.loop-low.high - c.loop-low.low) / 2 < length c.args.weights.now = omega arith in
    found_middle c.args.weights.now (c.loop-low.low + (c.loop-low.high - c.loop-low.low) / 2) c.args.at _ c.requires lt c.if-found-at.true

pub loop-low-preserved-then-found-at-2 : goal.loop-low-preserved-then-found-at-2
loop-low-preserved-then-found-at-2 c =
    let order = c.loop-low.invariant.order in
    let within = c.loop-low.invariant.within in
    let lt : c.loop-low.low + (c.loop-low.high - c.loop-low.low) / 2 < length c.args.weights.now = omega arith in
    record {
      within = within;
      order = omega arith;
      before = before_more c.args.weights.now (c.loop-low.low + (c.loop-low.high - c.loop-low.low) / 2) c.args.at _ c.requires lt c.if-found-at-2.true;
      behind = c.loop-low.invariant.behind;
    }

pub loop-low-preserved : goal.loop-low-preserved
loop-low-preserved c =
    let order = c.loop-low.invariant.order in
    let within = c.loop-low.invariant.within in
    let lt : c.loop-low.low + (c.loop-low.high - c.loop-low.low) / 2 < length c.args.weights.now = omega arith in
    record {
      within = omega arith;
      order = omega arith;
      before = c.loop-low.invariant.before;
      behind = behind_more c.args.weights.now (c.loop-low.low + (c.loop-low.high - c.loop-low.low) / 2) c.args.at _ c.requires lt c.if-found-at-2.false c.if-found-at.false;
    }

pub returns : goal.returns
returns c = none_between c.args.weights.now c.loop-low.low c.loop-low.high c.args.at c.loop-low-test.false c.loop-low.invariant.before c.loop-low.invariant.behind
