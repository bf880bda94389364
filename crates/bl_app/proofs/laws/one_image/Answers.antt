use Rattle.bl_app.proofs.OneAnswer.{harden_image, harden_kept, harden_program, harden_verdict, harden_whole}
use Rattle.bl_app.proofs.laws.one_image.Goals as goal

pub returns-clause-program : goal.returns-clause-program
returns-clause-program c = harden_program

pub returns-clause-image : goal.returns-clause-image
returns-clause-image c = harden_image

pub returns-clause-verdict : goal.returns-clause-verdict
returns-clause-verdict c = harden_verdict

pub returns-clause-kept : goal.returns-clause-kept
returns-clause-kept c = harden_kept

pub returns-clause-whole : goal.returns-clause-whole
returns-clause-whole c = harden_whole
