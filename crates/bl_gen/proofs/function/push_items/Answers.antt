use Rattle.std.proofs.Common.{◌++◌, ◌∙◌, ap, append-nil, sym}
use Rattle.bl_gen.specs.GeneratedModule.{item, items, item_kind}
use Rattle.bl_gen.proofs.Ranges.{behind_more}
use Rattle.bl_gen.proofs.function.push_items.Goals as goal

pub loop-j-init : goal.loop-j-init
unfolding items
loop-j-init c = sym (append-nil c.args.to.now.items)

pub loop-j-preserved : goal.loop-j-preserved
unfolding items
loop-j-preserved c = behind_more (λ j. item (item_kind c.args.seed c.args.i j)) c.args.to.now.items c.loop-j.to.items _ c.loop-j.j c.loop-j.invariant (c.in_ok-push_item.ensures ∙ ap (λ k. c.loop-j.to.items ++ item k) c.kind.ensures)
