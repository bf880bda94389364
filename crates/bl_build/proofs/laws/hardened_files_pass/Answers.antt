use Rattle.bl_build.proofs.HardenedFiles.{files_pass}
use Rattle.bl_build.proofs.laws.hardened_files_pass.Goals as goal

pub returns : goal.returns
returns c = files_pass
