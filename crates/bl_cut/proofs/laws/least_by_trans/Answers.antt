use Rattle.bl_transient.specs.Transient.{nothing}
use Rattle.bl_cut.proofs.LeastSites.{holds_needed}
use Rattle.bl_cut.proofs.laws.least_by_trans.Goals as goal

pub returns : goal.returns
returns c = λ program set is least s. holds_needed nothing program is set least s
