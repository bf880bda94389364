use Rattle.std.proofs.Common.{◌++◌, ◌∙◌, ap, codes}
use Rattle.std.specs.Fmt.{decimal}
use Rattle.std.proofs.lemmas.List.{append_assoc}
use Rattle.bl_outcome.specs.Lines.{line}
use Rattle.bl_outcome.specs.Outcomes.{rows_text}
use Rattle.bl_outcome.proofs.memories.push_memory.Goals as goal

pub returns : goal.returns
returns c =
    let text = c.args.text.now.items in
    let rows = rows_text c.args.number c.args.before.now c.args.memory.now.bytes in
    let head = c.in_ok-extend_from_slice.ensures.items ∙ ap (λ t. text ++ t) (c.deref.ensures.value ∙ c.in_ok-head.ensures) in
    c.in_ok-push_rows.ensures ∙ ap (λ b. c.extend_from_slice.new.self.items ++ rows_text c.args.number c.args.before.now b) c.as_slice.ensures ∙ ap (λ t. t ++ rows) head
    ∙ append_assoc text (line (codes "memory " ++ decimal c.args.number ++ codes " pages " ++ decimal c.args.memory.now.pages)) rows
