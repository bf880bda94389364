use Rattle.std.proofs.Common.{ℕ, List, ◌++◌, ◌∷◌, [], ◌∙◌, ap}
use Rattle.std.specs.List.{flat_map, range_with_len}
use Rattle.bl_trace.specs.Observations.{guard_text, guards_text}
use Rattle.bl_trace.proofs.TextPieces.{with_guards, without_guards}
use Rattle.bl_trace.proofs.observation.guarded.Goals as goal

pub returns-then-mask-eq0 : goal.returns-then-mask-eq0
unfolding guards_text
returns-then-mask-eq0 c = c.in_ok-push.ensures.items ∙ without_guards 64 c.args.mask c.args.text.items c.if-mask-eq0.true

pub returns : goal.returns
unfolding guards_text
returns c =
    c.in_ok-push-2.ensures.items
    ∙ ap (λ (t : List ℕ). t ++ 10 ∷ [])
    (c.in_ok-push_guards.ensures ∙ ap (λ (t : List ℕ). t ++ flat_map (guard_text c.args.mask) (range_with_len 0 64)) c.in_ok-extend_from_slice.ensures.items)
    ∙ with_guards 64 c.args.mask c.args.text.items c.if-mask-eq0.false
