use Rattle.bl_flow.proofs.MaxFlowExistence.{some_flow}
use Rattle.bl_flow.proofs.laws.some_flow_is_greatest.Goals as goal

pub returns : goal.returns
returns c = λ n range bounded small. some_flow n range bounded small
