use Rattle.std.proofs.lemmas.Result.{IfOk-weaker}
use Rattle.bl_witness.proofs.VerdictParts.{meant}
use Rattle.bl_witness.proofs.verdict.check_certificate_of.Goals as goal

pub returns-clause-least : goal.returns-clause-least
returns-clause-least c = IfOk-weaker c.checked.result _ _ (λ verdict checks. meant c.args.program.now c.ranges-2.ensures c.args.certificate.now verdict checks) c.checked.ensures
