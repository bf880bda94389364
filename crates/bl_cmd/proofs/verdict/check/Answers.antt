use Rattle.bl_program.proofs.BrokenRules.{unbroken}
use Rattle.bl_cmd.proofs.Faults.{fault_of}
use Rattle.bl_cmd.proofs.verdict.check.Goals as goal

pub returns-in-Ok-Some-clause-only : goal.returns-in-Ok-Some-clause-only
returns-in-Ok-Some-clause-only c = λ well.
    let first = fault_of c.args.program c.parts.result.now c.in-Ok-Some.field-0 c.in-Ok-Some.fault c.parts.ensures.same c.in-Ok-Some.ensures c.in-Ok-Some.field-0-is in
    absurd (unbroken c.args.program c.in-Ok-Some.fault.rule c.in-Ok-Some.fault.position.0 well first.broken)
