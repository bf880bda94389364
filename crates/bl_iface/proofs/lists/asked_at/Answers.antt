use Rattle.std.proofs.Common.{◌≡◌, ◌<◌, length, get_or, arith}
use Rattle.std.specs.Prelude.{slice_index}
use Rattle.bl_iface.proofs.RoleListLemmas.{StandsAt, asked_more, asked_none, stands_at}
use Rattle.bl_iface.proofs.lists.asked_at.Goals as goal
use Rattle.bl_iface.proofs.lists.asked_at.Goals.{After-one-item}

stands : (c : After-one-item)
    → (c.loop-index.index < length c.args.iface.now.functions) × (c.one-item.result ≡ get_or c.args.iface.now.functions c.loop-index.index c.one-item.result)
    × StandsAt c.args.parts.now c.one-item.result (slice_index c.args.targets.now c.loop-index.index) (slice_index c.args.firsts.now (slice_index c.args.targets.now c.loop-index.index))
stands c =
    let lt = rw c.as_slice-one-items.ensures at c.loop-index-test.true in
    let is = rw c.as_slice-one-items.ensures at c.one-item.is in
    (lt, is, stands_at c.args.parts.now c.args.iface.now c.args.firsts.now c.args.targets.now c.requires.rule c.requires.matches c.requires.firsts c.requires.targets c.loop-index.index c.one-item.result lt is)

pub loop-index-init : goal.loop-index-init
loop-index-init c = rw c.nothing-asked.ensures (asked_none c.args.role c.args.iface.now c.args.parts.now)

pub push_asked-requires : goal.push_asked-requires
push_asked-requires c =
    let at = (stands (goal.at.push_asked-requires c).After-one-item).2 in
    let first = at.first_is in let params = at.params in let results = at.results in let room = at.room in
    omega arith

pub loop-index-preserved : goal.loop-index-preserved
loop-index-preserved c =
    let here = stands (goal.at.loop-index-preserved c).After-one-item in
    asked_more c.args.role c.args.iface.now c.args.parts.now c.loop-index.index (slice_index c.args.targets.now c.loop-index.index) _ c.one-item.result c.loop-index.asked _ here.0 here.1 here.2
    c.in_ok-push_asked.ensures c.loop-index.invariant
