use Rattle.std.proofs.Common.{◌≡◌, ◌∙◌, sym, subst, ◌++◌, ◌+◌, drop, filter_map, rules}
use Rattle.bl_wasm.specs.Exports.{Pairs}
use Rattle.bl_wasm.specs.declared.module.Export.{Export}
use Rattle.bl_wasm.specs.declared.module.ExportKind.TheVariants.{Function}
use Rattle.bl_link.specs.Links.{exported, pair}
use Rattle.bl_link.proofs.AddedNames.{pair_is_new, pairs_more, pairs_same}
use Rattle.bl_link.proofs.names.with_functions.Goals as goal
use Rattle.bl_link.proofs.names.with_functions.Goals.{then-eq+in_ok-name+in_ok-add, else-eq}

pub add-requires : goal.add-requires
add-requires c =
    let function : c.entry-item.result.kind ≡ Function = search rules in
    pair_is_new c.args.part.now c.args.spaces.now c.args.entries.now c.loop-entry.entry-index c.entry-item.result c.args.before _ c.loop-entry-test.true c.entry-item.is c.loop-entry.invariant _ _ function c.requires c.as_slice.ensures c.in_ok-name.ensures

pub loop-entry-preserved : goal.loop-entry-preserved
loop-entry-preserved c = elim c.if-eq.branch [
  | then-eq+in_ok-name+in_ok-add w ↦
      let function : c.entry-item.result.kind ≡ Function = search rules in
      pairs_more c.args.part.now c.args.spaces.now c.args.entries.now c.loop-entry.entry-index c.entry-item.result c.args.before _ c.loop-entry-test.true c.entry-item.is c.loop-entry.invariant _ _ _ w.number.result
      function w.as_slice.ensures w.in_ok-name.ensures w.number.ensures (w.exports-is ∙ w.in_ok-add.ensures.ok)
  | else-eq w ↦
      let other : c.entry-item.result.kind ≡ Function → ⊥ = λ e. search rules in
      subst (λ (ps : Pairs). ps ++ filter_map (λ (entry : Export). pair (exported c.args.part.now c.args.spaces.now entry)) (drop (c.loop-entry.entry-index + 1) c.args.entries.now) ≡ c.args.before ++ filter_map (λ (entry : Export). pair (exported c.args.part.now c.args.spaces.now entry)) c.args.entries.now) (sym w.exports-is)
      (pairs_same c.args.part.now c.args.spaces.now c.args.entries.now c.loop-entry.entry-index c.entry-item.result c.args.before _ c.loop-entry-test.true c.entry-item.is c.loop-entry.invariant other)
]
