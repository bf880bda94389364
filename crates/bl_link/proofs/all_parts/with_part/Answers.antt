use Rattle.std.proofs.Common.{◌∙◌, ap, refl}
use Rattle.bl_wasm.specs.declared.linked.Tree.{Tree}
use Rattle.bl_link.proofs.TreeParts.{distinct_at}
use Rattle.bl_link.proofs.all_parts.with_part.Goals as goal

pub with_exports-requires : goal.with_exports-requires
with_exports-requires c = distinct_at c.args.store.now.tree.exports c.with_values.new.tree.exports c.args.name.now c.args.spaces.now c.args.wasm.now.exports c.args.wasm.now.exports
    (ap (λ (t : Tree). t.exports) c.in_ok-with_values.ensures ∙ ap (λ (t : Tree). t.exports) c.in_ok-with_code_of.ensures) refl c.requires.room.pairs
