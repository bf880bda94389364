use Rattle.std.proofs.Common.{sym, ◌∙◌, arith}
use Rattle.std.proofs.lemmas.Bool.{false≢true}
use Rattle.bl_iface.proofs.InterfaceTypes.{kind_at}
use Rattle.bl_iface.proofs.obstacles.have_same_kinds.Goals as goal

pub returns-then-not-is_same : goal.returns-then-not-is_same
returns-then-not-is_same c = (
  λ e. absurd (false≢true e),
  λ same. absurd (false≢true (sym c.if-not-is_same.true ∙ c.is_same.ensures.1 (kind_at c.args.ours.now c.args.theirs.now c.loop-index.index _ _ c.loop-index-test.true (omega arith) same))),
)
