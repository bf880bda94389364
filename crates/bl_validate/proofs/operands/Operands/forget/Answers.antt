use Rattle.std.proofs.Common.{reverse}
use Rattle.bl_validate.specs.MayStand.{MayStand, known}
use Rattle.bl_validate.proofs.CoverLemmas.{covered}
use Rattle.bl_validate.proofs.operands.Operands.forget.Goals as goal

pub returns-clause-any : goal.returns-clause-any
unfolding MayStand
returns-clause-any c = λ s. rw c.clear.ensures.items (λ e. absurd (cc e))

pub returns-clause-some : goal.returns-clause-some
unfolding MayStand
returns-clause-some c = covered c.args.self.now.unreachable (reverse (known c.args.self.now))
