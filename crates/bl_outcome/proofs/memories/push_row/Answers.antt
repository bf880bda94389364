use Rattle.std.proofs.Common.{[], ◌∷◌, ◌++◌, ◌∙◌, ap}
use Rattle.std.specs.List.{flat_map}
use Rattle.bl_outcome.specs.Outcomes.{bytes_at, hex_text}
use Rattle.bl_outcome.proofs.MemoryTexts.{row_other, row_same}
use Rattle.bl_outcome.proofs.memories.push_row.Goals as goal

pub returns-then-is_same : goal.returns-then-is_same
returns-then-is_same c = row_same c.args.number c.args.offset c.args.text.now.items c.args.before.now c.args.bytes.now (c.is_same.ensures.0 c.if-is_same.true)

pub returns : goal.returns
returns c =
    let text = c.args.text.now.items in
    let head = c.in_ok-extend_from_slice.ensures.items ∙ ap (λ t. text ++ t) (c.deref.ensures.value ∙ c.in_ok-row_head.ensures) in
    let digits = flat_map hex_text (bytes_at c.args.bytes.now c.args.offset 16) in
    c.in_ok-push.ensures.items ∙ ap (λ t. t ++ 10 ∷ []) (c.in_ok-push_hex.ensures ∙ ap (λ t. t ++ digits) head)
    ∙ row_other c.args.number c.args.offset text c.args.before.now c.args.bytes.now (λ e. let same = c.is_same.ensures.1 e in let other = c.if-is_same.false in cc)
