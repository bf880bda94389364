use Rattle.bl_build.specs.StageAnswers.{built_in}
use Rattle.bl_build.proofs.BuildLemmas.{sized_again}
use Rattle.bl_build.proofs.build.sized.Goals as goal

pub returns-in_ok-with_image-in-Ok : goal.returns-in_ok-with_image-in-Ok
returns-in_ok-with_image-in-Ok c =
    let judged = c.in-Ok.ensures in
    let made = c.in_ok-with_image-in-Ok.ensures in
    sized_again c.args.program c.in-Ok.program judged.0 (built_in c.in_ok-with_image-in-Ok.field-0) judged.1 made.0 made.1
