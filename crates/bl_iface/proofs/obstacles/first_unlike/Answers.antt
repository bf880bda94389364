use Rattle.std.proofs.Common.{◌≡◌, Some, slice_get, get_or, sym, ◌∙◌, arith}
use Rattle.std.proofs.lemmas.Bool.{false≢true}
use Rattle.bl_base.proofs.Lists.{item_at}
use Rattle.bl_iface.proofs.InterfaceTypes.{alike_all, alike_more, unlike_here}
use Rattle.bl_iface.proofs.obstacles.first_unlike.Goals as goal
use Rattle.bl_iface.proofs.obstacles.first_unlike.Goals.{After-have_same_types}

here : (c : After-have_same_types) → slice_get c.args.client.now.functions (get_or c.args.ours.now c.loop-index.index 0) ≡ Some c.index-as_slice-ours.result
here c =
    item_at c.args.client.now.functions c.as_slice.result.now _ _ c.as_slice.ensures (rw c.as_slice.ensures (c.requires.ours.exist c.loop-index.index 0 c.loop-index-test.true)) c.index-as_slice-ours.is

there : (c : After-have_same_types) → slice_get c.args.library.now.functions (get_or c.args.theirs.now c.loop-index.index 0) ≡ Some c.index-as_slice-theirs.result
there c =
    let many = c.requires.ours.many in
    let also = c.requires.theirs.many in
    item_at c.args.library.now.functions c.as_slice-in-loop-index.result.now _ _ c.as_slice-in-loop-index.ensures
    (rw c.as_slice-in-loop-index.ensures (c.requires.theirs.exist c.loop-index.index 0 (omega arith))) c.index-as_slice-theirs.is

pub returns-then-not-have_same_types : goal.returns-then-not-have_same_types
returns-then-not-have_same_types c =
    let before = (goal.at.returns-then-not-have_same_types c).After-have_same_types in
    unlike_here c.args.client.now c.args.library.now c.args.iface.now c.args.ours.now c.args.theirs.now c.loop-index.index c.index-as_slice-ours.result c.index-as_slice-theirs.result c.requires.ours c.requires.theirs c.loop-index-test.true (here before) (there before)
    (λ alike. false≢true (sym c.if-not-have_same_types.true ∙ c.have_same_types.ensures.1 alike)) c.loop-index.invariant

pub loop-index-preserved : goal.loop-index-preserved
loop-index-preserved c =
    let before = (goal.at.loop-index-preserved c).After-have_same_types in
    alike_more c.args.client.now c.args.library.now c.args.iface.now c.args.ours.now c.args.theirs.now c.loop-index.index c.index-as_slice-ours.result c.index-as_slice-theirs.result c.requires.ours c.requires.theirs c.loop-index-test.true (here before) (there before)
    (c.have_same_types.ensures.0 c.if-not-have_same_types.false) c.loop-index.invariant

pub returns : goal.returns
returns c = alike_all c.args.client.now c.args.library.now c.args.iface.now c.args.ours.now c.loop-index.index c.requires.ours c.loop-index-test.false c.loop-index.invariant
