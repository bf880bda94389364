use Rattle.std.proofs.Common.{subst}
use Rattle.bl_program.specs.Programs.{IsProgram}
use Rattle.bl_build.specs.StageAnswers.{certified_in}
use Rattle.bl_app.proofs.VerifyLemmas.{found_shows}
use Rattle.bl_app.proofs.verify.judge_of.Goals as goal

pub returns : goal.returns
returns c =
    found_shows (certified_in c.args.certified.now) _ (subst IsProgram c.program.ensures.same c.parts-parts.ensures.facts) c.program.ensures.rules
    c.in_ok-rules.ensures.rules c.in_ok-leak.ensures c.in_ok-chain.ensures
