use Rattle.std.proofs.Common.{◌+◌, ◌-◌, ◌++◌, ◌∙◌, ap, arith}
use Rattle.std.specs.Prelude.{slice_index}
use Rattle.std.specs.List.{flat_map, range_with_len}
use Rattle.bl_base.proofs.PieceLemmas.{pieces_next, pieces_all}
use Rattle.bl_outcome.specs.Outcomes.{hex_text}
use Rattle.bl_outcome.proofs.MemoryTexts.{hex_begin}
use Rattle.bl_outcome.proofs.memories.push_hex.Goals as goal

pub loop-place-init : goal.loop-place-init
loop-place-init c = hex_begin c.args.text.now.items c.args.bytes.now c.args.from c.args.count

pub loop-place-preserved : goal.loop-place-preserved
loop-place-preserved c =
    let bytes = c.args.bytes.now in
    let end = c.args.from + c.args.count in
    ap (λ t. t ++ flat_map (λ place. hex_text (slice_index bytes place)) (range_with_len (c.loop-place.place + 1) (end - (c.loop-place.place + 1))))
    (c.in_ok-push_byte.ensures ∙ ap (λ b. c.loop-place.text.items ++ hex_text b) c.byte_at.ensures)
    ∙ pieces_next (λ place. hex_text (slice_index bytes place)) c.loop-place.text.items c.loop-place.place end (omega arith) ∙ c.loop-place.invariant

pub returns : goal.returns
returns c =
    pieces_all (λ place. hex_text (slice_index c.args.bytes.now place)) c.loop-place.text.items _ c.loop-place.place (c.args.from + c.args.count) (omega arith) c.loop-place.invariant
