use Rattle.std.proofs.Common.{subst}
use Rattle.bl_program.specs.Programs.{IsProgram}
use Rattle.bl_sct.proofs.AssessLemmas.{safe, unstable}
use Rattle.bl_sct.proofs.verdict.assess_labelled.Goals as goal

pub returns-in-None : goal.returns-in-None
returns-in-None c =
    safe c.args.program.now c.requires.labelled _ c.in_ok-leak.ensures (subst IsProgram c.program.ensures.same c.parts-parts.ensures.facts) c.program.ensures.rules c.in-None.is

pub returns-in-Some : goal.returns-in-Some
returns-in-Some c = unstable c.args.program.now c.requires.labelled _ c.in_ok-leak.ensures _ c.in-Some.is
