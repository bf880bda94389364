use Rattle.std.proofs.Common.{sym}
use Rattle.bl_validate.specs.Represents.{Represents}
use Rattle.bl_validate.specs.Scopes.{seen}
use Rattle.bl_validate.proofs.ConstructLemmas.{begins, if_ok_from}
use Rattle.bl_validate.proofs.body.Body.begin.Goals as goal

pub returns : goal.returns
returns c = rw (← c.in-Some.ensures.0) (if_ok_from c.begin.result _ _ (λ ok h.
    begins (seen c.args.self.now) c.in-Some.construct c.args.immediate c.args.above.now (Represents c.args.stacks.now) (Represents c.begin.new.self) ok (sym c.in-Some.ensures.1) h) c.begin.ensures)
