use Rattle.std.proofs.Common.{◌≡◌, ◌+◌, Some, max, ap₂, sym, ◌∙◌, subst, arith}
use Rattle.bl_wasm.specs.OpenConstructs.{depth_at, open_behind}
use Rattle.bl_wasm.specs.declared.instruction.Instr.{Instr}
use Rattle.bl_wasm.proofs.NestingDepths.{moves_at}
use Rattle.bl_decode.proofs.Excesses.{greatest_depth_more}
use Rattle.bl_decode.proofs.limits.nesting.Goals as goal

pub loop-item-preserved : goal.loop-item-preserved
loop-item-preserved c =
    let l = c.loop-item in
    let items = c.args.items.now in
    let m = moves_at items l.item-index c.item-item.result c.requires c.loop-item-test.true in
    let passed : open_behind c.item-item.result m.before ≡ Some m.behind = subst (λ (x : Instr). open_behind x m.before ≡ Some m.behind) (sym c.item-item.is) m.passed in
    let next : c.depth_behind-depth.result ≡ depth_at items (l.item-index + 1) = c.depth_behind-depth.ensures.depth m.before m.behind (m.depth ∙ sym l.invariant.depth) passed ∙ sym m.next in
    record {
      depth = next;
      few = omega (arith, c.depth_behind-depth.ensures.most, l.invariant.few);
      deepest = c.max-deepest.ensures ∙ ap₂ max l.invariant.deepest next ∙ sym (greatest_depth_more items (l.item-index + 1));
    }
