use Rattle.bl_build.proofs.CertificateLemmas.{not_read}
use Rattle.bl_build.proofs.certificate.read_certificate.Goals as goal

pub returns-in-Err : goal.returns-in-Err
returns-in-Err c = not_read c.args.bytes.now c.in-Err.error c.in-Err.ensures c.of_certificate.result c.of_certificate.ensures
