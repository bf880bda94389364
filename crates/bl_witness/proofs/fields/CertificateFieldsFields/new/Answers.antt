use Rattle.bl_witness.proofs.Objects.{certificate_is, certificate_member, no_certificate_members}
use Rattle.bl_witness.proofs.fields.CertificateFieldsFields.new.Goals as goal

pub returns : goal.returns
returns c = record { none = no_certificate_members; more = certificate_member; whole = certificate_is }
