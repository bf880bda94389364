use Rattle.bl_witness.proofs.Objects.{path_is, path_member, no_path_members}
use Rattle.bl_witness.proofs.fields.PathFieldsFields.new.Goals as goal

pub returns : goal.returns
returns c = record { none = no_path_members; more = path_member; whole = path_is }
