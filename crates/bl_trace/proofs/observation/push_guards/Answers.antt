use Rattle.std.proofs.Common.{◌++◌, ◌-◌, ◌+◌, ap, ◌∙◌}
use Rattle.std.specs.List.{flat_map, range_with_len}
use Rattle.bl_base.proofs.PieceLemmas.{pieces_next, pieces_all}
use Rattle.bl_trace.specs.Observations.{guard_text}
use Rattle.bl_trace.proofs.observation.push_guards.Goals as goal

pub loop-place-preserved : goal.loop-place-preserved
loop-place-preserved c =
    let piece = guard_text c.args.mask in
    ap (λ t. t ++ flat_map piece (range_with_len (c.loop-place.place + 1) (c.args.count - (c.loop-place.place + 1)))) c.in_ok-push_guard.ensures
    ∙ pieces_next piece c.loop-place.text.items c.loop-place.place c.args.count c.loop-place-test.true ∙ c.loop-place.invariant

pub returns : goal.returns
returns c = pieces_all (guard_text c.args.mask) c.loop-place.text.items _ c.loop-place.place c.args.count c.loop-place-test.false c.loop-place.invariant
