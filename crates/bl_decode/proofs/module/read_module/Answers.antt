use Rattle.std.proofs.Common.{◌≡◌, length, ap, sym, ◌∙◌}
use Rattle.bl_decode.proofs.Trees.{module_err, one_tree, spelled_sections}
use Rattle.bl_decode.proofs.module.read_module.Goals as goal

pub returns-in_err-tree : goal.returns-in_err-tree
returns-in_err-tree c = module_err c.args.bytes.now c.from_residual.result _ c.from_residual.ensures.1 c.in_err-tree.ensures

pub returns-then-len : goal.returns-then-len
returns-then-len c = λ x h.
    let same = one_tree c.in_ok-tree.tree x _ c.in_ok-tree.ensures (spelled_sections c.args.bytes.now x h) in
    let counts : length c.in_ok-tree.tree.functions ≡ length c.in_ok-tree.tree.bodies = ap (λ m. length m.functions) same ∙ h.0 ∙ ap (λ m. length m.bodies) (sym same) in
    c.if-len.true (c.len.ensures ∙ counts ∙ sym c.len-2.ensures)
