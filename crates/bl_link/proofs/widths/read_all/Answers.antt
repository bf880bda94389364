use Rattle.std.proofs.Common.{subst}
use Rattle.std.proofs.lemmas.List.{take_all}
use Rattle.std.proofs.lemmas.List.Elements.{All-more}
use Rattle.std.specs.List.{All}
use Rattle.bl_wasm.specs.Linked.{HasImmediates}
use Rattle.bl_link.proofs.widths.read_all.Goals as goal

pub loop-item-preserved : goal.loop-item-preserved
loop-item-preserved c = All-more HasImmediates c.args.items.now c.loop-item.item-index c.item-item.result c.loop-item-test.true c.loop-item.invariant (subst HasImmediates c.item-item.is c.read.ensures)

pub returns : goal.returns
returns c = subst (All HasImmediates) (take_all _ _ c.loop-item-test.false) c.loop-item.invariant
