use Rattle.bl_cut.proofs.LeastSites.{only_one}
use Rattle.bl_iface.specs.RoleTests.{asked}
use Rattle.bl_iface.proofs.LeastChoice.{none_given, some_choice}
use Rattle.bl_iface.proofs.OneVerdict.{one_given}
use Rattle.bl_iface.proofs.laws.one_choice.Goals as goal

pub returns-clause-sets : goal.returns-clause-sets
returns-clause-sets c = λ role iface program one other is a b s. only_one (asked role iface program) program is one other a b s

pub returns-clause-positions : goal.returns-clause-positions
returns-clause-positions c = one_given

pub returns-clause-apart : goal.returns-clause-apart
returns-clause-apart c = none_given

pub returns-clause-some : goal.returns-clause-some
returns-clause-some c = some_choice
