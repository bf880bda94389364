use Rattle.bl_code.proofs.ExpressionLemmas.{expression_prefix_free}
use Rattle.bl_code.proofs.Places.{one_at}
use Rattle.bl_code.proofs.laws.one_expression.Goals as goal

pub returns : goal.returns
returns c = λ bytes at end other xs ys p q. one_at bytes at end other xs ys expression_prefix_free p q
