use Rattle.std.proofs.Common.{Err}
use Rattle.bl_build.specs.CertificateStages.{certifying}
use Rattle.bl_build.specs.EntryStages.{imaging}
use Rattle.bl_build.specs.StageAnswers.{certified_in}
use Rattle.bl_build.proofs.BuildLemmas.{staged_behind}
use Rattle.bl_build.proofs.PreparedLemmas.{staged_first}
use Rattle.bl_build.proofs.certificate.read_certified.Goals as goal

pub returns-in-Err : goal.returns-in-Err
returns-in-Err c = staged_first imaging (certifying c.args.certificate.now) certified_in c.args.image.now c.in-Err.error c.in-Err.ensures

pub returns-in-Err-read_certificate : goal.returns-in-Err-read_certificate
returns-in-Err-read_certificate c =
    staged_behind imaging (certifying c.args.certificate.now) certified_in c.args.image.now c.in-Ok.program (Err c.in-Err-read_certificate.error) c.in-Ok.ensures c.in-Err-read_certificate.ensures
