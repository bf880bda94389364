use Rattle.std.proofs.Common.{◌≡◌, ◌+◌, ◌++◌, ◌∷◌, [], take, arith, sym, subst, ap, ◌∙◌}
use Rattle.std.specs.List.{slice_index_or}
use Rattle.std.proofs.lemmas.List.{take_more, take_all}
use Rattle.bl_graph.specs.declared.facts.Use.{Use}
use Rattle.bl_graph.specs.Graphs.{use_of}
use Rattle.bl_ct.specs.SecretSearch.{KeptAt}
use Rattle.bl_ct.proofs.EndTables.{kept_yes, kept_no}
use Rattle.bl_ct.proofs.ends.uses_at.Goals as goal
use Rattle.bl_ct.proofs.ends.uses_at.Goals.{then-marks-item+in_ok-push, else-marks-item}

pub loop-item-preserved : goal.loop-item-preserved
loop-item-preserved c =
    let loop = c.loop-item in
    let lt = c.loop-item-test.true in
    let u : Use = slice_index_or c.args.uses.now loop.item-index (use_of 0 0) in
    let more : take (loop.item-index + 1) c.args.uses.now ≡ take loop.item-index c.args.uses.now ++ u ∷ [] = take_more c.args.uses.now loop.item-index (use_of 0 0) lt in
    subst (λ l. KeptAt l c.args.marks.now c.if-marks-item.kept.items) (sym more)
    (elim c.if-marks-item.branch as (λ _. KeptAt (take loop.item-index c.args.uses.now ++ u ∷ []) c.args.marks.now c.if-marks-item.kept.items) [
      | then-marks-item+in_ok-push w ↦ subst (λ k. KeptAt (take loop.item-index c.args.uses.now ++ u ∷ []) c.args.marks.now k) (sym (ap (λ k. k.items) w.kept-is ∙ w.in_ok-push.ensures.items)) (kept_yes (take loop.item-index c.args.uses.now) c.args.marks.now loop.kept.items u w.if-marks-item.true loop.invariant)
      | else-marks-item w ↦ subst (λ k. KeptAt (take loop.item-index c.args.uses.now ++ u ∷ []) c.args.marks.now k) (sym (ap (λ k. k.items) w.kept-is)) (kept_no (take loop.item-index c.args.uses.now) c.args.marks.now loop.kept.items u w.if-marks-item.false loop.invariant)
    ])

pub returns : goal.returns
returns c =
    let past = c.loop-item-test.false in
    subst (λ l. KeptAt l c.args.marks.now c.loop-item.kept.items) (take_all c.loop-item.item-index c.args.uses.now (omega arith)) c.loop-item.invariant
