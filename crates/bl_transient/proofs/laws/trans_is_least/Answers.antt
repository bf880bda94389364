use Rattle.bl_transient.specs.Transient.{nothing}
use Rattle.bl_transient.proofs.LeastTypings.{least_typing, least_assigns, typing_trans, is_trans, trans_least}
use Rattle.bl_transient.proofs.laws.trans_is_least.Goals as goal

pub returns-clause-keeps : goal.returns-clause-keeps
returns-clause-keeps c = λ program set. (least_typing nothing program set, least_assigns nothing program set, λ x. (typing_trans nothing program set x, is_trans nothing program set x))

pub returns-clause-least : goal.returns-clause-least
returns-clause-least c = λ program typing set x keeps t. trans_least nothing program typing set x keeps t
