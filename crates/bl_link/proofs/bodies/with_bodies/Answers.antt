use Rattle.std.proofs.Common.{◌≡◌, ◌∙◌, sym, subst, ap, drop, List, ◌++◌, ◌∷◌, [], ◌+◌, map, length, arith}
use Rattle.std.specs.List.{enumerate_from, zip}
use Rattle.std.proofs.lemmas.List.{drop_more, nil_from_length}
use Rattle.std.specs.Vec.Iter.{into_iter_items}
use Rattle.bl_wasm.specs.declared.linked.Function.{Function}
use Rattle.bl_link.specs.Links.{function}
use Rattle.bl_link.proofs.NumberedPairs.{paired_more, paired_none}
use Rattle.bl_link.proofs.bodies.with_bodies.Goals as goal
use Rattle.bl_link.proofs.bodies.with_bodies.Goals.{in-Some+in_ok-function+in_ok-push, in_default}

pub loop-index-preserved : goal.loop-index-preserved
loop-index-preserved c = elim c.match-next.branch [
  | in-Some+in_ok-function+in_ok-push w ↦
      record {
        whole =
            subst (λ (fs : List Function). fs ++ map (function c.args.types.now c.args.marks.now c.args.spaces.now) (enumerate_from (c.loop-index.at + 1) (zip (drop (c.loop-index.index-index + 1) c.args.indices.now) (into_iter_items c.next.new.self))) ≡ c.args.before ++ map (function c.args.types.now c.args.marks.now c.args.spaces.now) (enumerate_from c.args.imported (zip c.args.indices.now c.args.bodies)))
            (sym (w.functions-is ∙ w.in_ok-push.ensures.ok ∙ ap (λ (f : Function). c.loop-index.functions ++ f ∷ []) w.in_ok-function.ensures))
            (paired_more (function c.args.types.now c.args.marks.now c.args.spaces.now) c.loop-index.functions c.loop-index.at _ _ _ _ _ _ _ (drop_more c.args.indices.now c.loop-index.index-index 0 c.loop-index-test.true) w.in-Some.ensures.cases.0 c.loop-index.invariant.whole);
        place = omega (arith, c.loop-index.invariant.place);
        counted = omega (arith, c.loop-index.invariant.counted, w.in-Some.ensures.cases.1, ap length w.in-Some.ensures.cases.0);
      }
  | in_default w ↦
      let none = nil_from_length _ (sym c.loop-index.invariant.counted ∙ w.in_default.ensures.cases.0) in
      let after = sym w.in_default.ensures.items ∙ none in
      record {
        whole =
            subst (λ (fs : List Function). fs ++ map (function c.args.types.now c.args.marks.now c.args.spaces.now) (enumerate_from (c.loop-index.at + 1) (zip (drop (c.loop-index.index-index + 1) c.args.indices.now) (into_iter_items c.next.new.self))) ≡ c.args.before ++ map (function c.args.types.now c.args.marks.now c.args.spaces.now) (enumerate_from c.args.imported (zip c.args.indices.now c.args.bodies)))
            (sym w.functions-is)
            (paired_none (function c.args.types.now c.args.marks.now c.args.spaces.now) c.loop-index.functions c.loop-index.at _ _ _ _ _ _ none after c.loop-index.invariant.whole);
        place = omega (arith, c.loop-index.invariant.place);
        counted = w.in_default.ensures.cases.1 ∙ sym (ap length after);
      }
]
