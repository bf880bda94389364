use Rattle.std.proofs.Common.{◌+◌, ◌-◌, ◌*◌, ◌/◌, ◌++◌, ◌∙◌, ap, arith, length}
use Rattle.std.specs.List.{flat_map, range_with_len}
use Rattle.bl_base.proofs.PieceLemmas.{pieces_next, pieces_all}
use Rattle.bl_outcome.specs.Outcomes.{row_text}
use Rattle.bl_outcome.proofs.memories.push_rows.Goals as goal

pub loop-row-preserved : goal.loop-row-preserved
loop-row-preserved c =
    let end = length c.args.bytes.now / 16 in
    ap (λ t. t ++ flat_map (λ row. row_text c.args.number c.args.before.now c.args.bytes.now (16 * row)) (range_with_len (c.loop-row.row + 1) (end - (c.loop-row.row + 1)))) c.in_ok-push_row.ensures
    ∙ pieces_next (λ row. row_text c.args.number c.args.before.now c.args.bytes.now (16 * row)) c.loop-row.text.items c.loop-row.row end (omega arith) ∙ c.loop-row.invariant

pub returns : goal.returns
returns c =
    pieces_all (λ row. row_text c.args.number c.args.before.now c.args.bytes.now (16 * row)) c.loop-row.text.items _ c.loop-row.row (length c.args.bytes.now / 16) (omega arith) c.loop-row.invariant
