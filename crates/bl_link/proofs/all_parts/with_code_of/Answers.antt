use Rattle.bl_link.proofs.TreeParts.{code_made}
use Rattle.bl_link.proofs.all_parts.with_code_of.Goals as goal

pub returns : goal.returns
returns c = code_made c.args.tree.now c.args.wasm.now c.args.bodies c.args.marks.now c.args.spaces.now c.in_ok-tree-2.field-0 c.in_ok-tree.field-0 c.replace-before.result c.replace-before-2.result c.len.result c.len-2.result
    c.as_slice.result.now c.as_slice-3.result.now c.as_slice-2.result.now c.replace-before.ensures.value c.replace-before-2.ensures.value c.as_slice.ensures c.as_slice-3.ensures c.as_slice-2.ensures
    c.len.ensures c.len-2.ensures c.requires.counts c.in_ok-tree.ensures c.in_ok-tree-2.ensures
