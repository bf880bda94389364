use Rattle.std.proofs.Common.{arith, sym, ap, ◌∙◌}
use Rattle.bl_flow.specs.Codes.{decoded}
use Rattle.bl_flow.proofs.Codes.{decoded_some}
use Rattle.bl_flow.proofs.optional.OptionalNumber.get.Goals as goal

pub returns-then-self-eq0 : goal.returns-then-self-eq0
returns-then-self-eq0 c = sym (ap decoded c.if-self-eq0.true) ∙ c.self.view_is

pub returns-else-self-eq0 : goal.returns-else-self-eq0
returns-else-self-eq0 c = decoded_some c.self.inside.code (let some = c.if-self-eq0.false in omega arith) ∙ c.self.view_is
