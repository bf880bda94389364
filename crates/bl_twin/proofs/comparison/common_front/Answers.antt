use Rattle.std.proofs.Common.{◌≡◌, ◌∙◌, sym, subst, take}
use Rattle.bl_twin.specs.TwinComparisons.{common_by}
use Rattle.bl_twin.proofs.PrefixLengths.{front_none, front_next, front_ends, front_first, front_second, front_taken}
use Rattle.bl_twin.proofs.comparison.common_front.Goals as goal

pub loop-count-init : goal.loop-count-init
loop-count-init g c = front_none g.O.Sight.alike c.args.one.now c.args.other.now

pub loop-count-preserved : goal.loop-count-preserved
loop-count-preserved g c =
    front_next g.O.Sight.alike c.args.one.now c.args.other.now c.loop-count.count c.index-one-count.result c.index-other-count.result c.loop-count-test.true c.if-count-other.true
    c.index-one-count.is c.index-other-count.is
    (sym c.is_same.ensures ∙ c.if-is_same.true) c.loop-count.invariant

pub returns-else-is_same-clause-count : goal.returns-else-is_same-clause-count
returns-else-is_same-clause-count g c =
    front_ends g.O.Sight.alike c.args.one.now c.args.other.now c.loop-count.count c.index-one-count.result c.index-other-count.result c.loop-count-test.true c.if-count-other.true
    c.index-one-count.is c.index-other-count.is
    (sym c.is_same.ensures ∙ c.if-is_same.false) c.loop-count.invariant

pub returns-else-is_same-clause-front : goal.returns-else-is_same-clause-front
returns-else-is_same-clause-front g c =
    let same = front_ends g.O.Sight.alike c.args.one.now c.args.other.now c.loop-count.count c.index-one-count.result c.index-other-count.result c.loop-count-test.true c.if-count-other.true
    c.index-one-count.is c.index-other-count.is
    (sym c.is_same.ensures ∙ c.if-is_same.false) c.loop-count.invariant in
    subst (λ n. take n c.args.one.now ≡ common_by g.O.Sight.alike c.args.one.now c.args.other.now) (sym same) (front_taken g.O.Sight.alike c.args.one.now c.args.other.now)

pub returns-else-count-other-clause-count : goal.returns-else-count-other-clause-count
returns-else-count-other-clause-count g c =
    front_second g.O.Sight.alike c.args.one.now c.args.other.now c.loop-count.count c.if-count-other.false c.loop-count.invariant

pub returns-else-count-other-clause-front : goal.returns-else-count-other-clause-front
returns-else-count-other-clause-front g c =
    let same = front_second g.O.Sight.alike c.args.one.now c.args.other.now c.loop-count.count c.if-count-other.false c.loop-count.invariant in
    subst (λ n. take n c.args.one.now ≡ common_by g.O.Sight.alike c.args.one.now c.args.other.now) (sym same) (front_taken g.O.Sight.alike c.args.one.now c.args.other.now)

pub returns-after-loop-count-clause-count : goal.returns-after-loop-count-clause-count
returns-after-loop-count-clause-count g c =
    front_first g.O.Sight.alike c.args.one.now c.args.other.now c.loop-count.count c.loop-count-test.false c.loop-count.invariant

pub returns-after-loop-count-clause-front : goal.returns-after-loop-count-clause-front
returns-after-loop-count-clause-front g c =
    let same = front_first g.O.Sight.alike c.args.one.now c.args.other.now c.loop-count.count c.loop-count-test.false c.loop-count.invariant in
    subst (λ n. take n c.args.one.now ≡ common_by g.O.Sight.alike c.args.one.now c.args.other.now) (sym same) (front_taken g.O.Sight.alike c.args.one.now c.args.other.now)
