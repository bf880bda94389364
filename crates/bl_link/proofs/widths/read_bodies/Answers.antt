use Rattle.std.proofs.Common.{subst}
use Rattle.std.specs.List.{All}
use Rattle.bl_wasm.specs.Linked.{HasImmediates}
use Rattle.bl_wasm.specs.declared.module.Code.{Code}
use Rattle.bl_link.proofs.ReadElements.{all_next, all_read}
use Rattle.bl_link.proofs.widths.read_bodies.Goals as goal

abbrev IsRead : Code → Type 0
IsRead code = All HasImmediates code.items

pub loop-code-preserved : goal.loop-code-preserved
loop-code-preserved c = all_next IsRead c.args.bodies.now c.loop-code.code-index c.code-item.result c.loop-code-test.true c.code-item.is c.loop-code.invariant (subst (All HasImmediates) c.as_slice.ensures c.read_all.ensures)

pub returns : goal.returns
returns c = all_read IsRead c.args.bodies.now c.loop-code.code-index c.loop-code-test.false c.loop-code.invariant
