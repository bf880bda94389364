use Rattle.bl_link.proofs.TreeParts.{distinct_at, exports_made}
use Rattle.bl_link.proofs.all_parts.with_exports.Goals as goal

pub with_functions-requires : goal.with_functions-requires
with_functions-requires c = distinct_at c.args.tree.now.exports c.replace-before.result c.args.name.now c.args.spaces.now c.args.wasm.now.exports c.as_slice.result.now c.replace-before.ensures.value c.as_slice.ensures c.requires

pub returns : goal.returns
returns c = exports_made c.args.tree.now c.replace-before.result c.in_ok-tree.field-0 c.args.name.now c.args.spaces.now c.args.wasm.now.exports c.as_slice.result.now c.replace-before.ensures.value c.as_slice.ensures c.in_ok-tree.ensures
