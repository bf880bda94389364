use Rattle.std.proofs.Common.{◌+◌, ◌∷◌, [], arith, length-append, ap, ◌∙◌}
use Rattle.bl_code.proofs.Places.{passes}
use Rattle.bl_code.proofs.Vectors.{each_more, err_more}
use Rattle.bl_code.proofs.format.read_each.Goals as goal

pub returns-in_err-tree : goal.returns-in_err-tree
returns-in_err-tree g c =
    passes _ c.args.bytes.now c.args.at c.from_residual.result _ c.from_residual.ensures.1
    (err_more g.F.Format.spellings c.args.bytes.now c.args.at c.loop.place c.loop.trees c.args.count _ g.met.F.Format.prefix_free c.loop.invariant.read (omega arith) c.in_err-tree.ensures)

pub loop-preserved : goal.loop-preserved
loop-preserved g c =
    let pushed = c.in_ok-push.ensures.ok in
    rw pushed (record {
      read = each_more g.F.Format.spellings c.args.bytes.now c.args.at c.loop.place c.in_ok-tree.after c.loop.trees c.in_ok-tree.tree c.loop.invariant.read c.in_ok-tree.ensures;
      counted = length-append c.loop.trees (c.in_ok-tree.tree ∷ []) ∙ ap (λ n. n + 1) c.loop.invariant.counted;
    })
