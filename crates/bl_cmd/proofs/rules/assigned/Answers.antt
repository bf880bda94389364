use Rattle.std.proofs.Common.{sym, ◌∙◌}
use Rattle.std.proofs.lemmas.Bool.{false≢true}
use Rattle.bl_cmd.proofs.Commands.{is_assigned, not_assigned}
use Rattle.bl_cmd.proofs.rules.assigned.Goals as goal
use Rattle.bl_cmd.proofs.rules.assigned.Goals.{else-is_operator-via-then-is_operator+then-is_same+then-is_same-2+else-is_same-3, else-is_operator-via-then-is_operator+then-is_same+else-is_same-2, else-is_operator-via-then-is_operator+else-is_same, else-is_operator-via-else-is_operator}

pub returns-then-is_same-3 : goal.returns-then-is_same-3
returns-then-is_same-3 c = (
  c.in-Set.mark,
  is_assigned _ _ _ _ _ _ _ _ _ _ _ c.in-Set.is (c.is_operator.ensures.0 c.if-is_operator.true) (c.is_same.ensures.0 c.if-is_same.true) (c.is_same-then-is_same.ensures.0 c.if-is_same-2.true) (c.is_same-then-is_same-2.ensures.0 c.if-is_same-3.true),
)

pub returns-else-is_operator : goal.returns-else-is_operator
returns-else-is_operator c = λ mark to e.
    let parts = not_assigned _ _ _ _ _ _ _ _ _ _ _ mark to c.in-Set.is e in
    elim c.else-is_operator.branch [
      | else-is_operator-via-then-is_operator+then-is_same+then-is_same-2+else-is_same-3 w ↦ false≢true (sym w.if-is_same-3.false ∙ w.is_same-then-is_same-2.ensures.1 parts.3)
      | else-is_operator-via-then-is_operator+then-is_same+else-is_same-2 w ↦ false≢true (sym w.if-is_same-2.false ∙ w.is_same-then-is_same.ensures.1 parts.2)
      | else-is_operator-via-then-is_operator+else-is_same w ↦ false≢true (sym w.if-is_same.false ∙ w.is_same.ensures.1 parts.1)
      | else-is_operator-via-else-is_operator w ↦ false≢true (sym w.if-is_operator.false ∙ c.is_operator.ensures.1 parts.0)
    ]
