use Rattle.bl_transient.specs.Transient.{nothing}
use Rattle.bl_cut.proofs.LeastSites.{only_one}
use Rattle.bl_cut.proofs.laws.at_most_one_least.Goals as goal

pub returns-clause-least : goal.returns-clause-least
returns-clause-least c = λ program one other is a b s. only_one nothing program is one other a b s

pub returns-clause-under : goal.returns-clause-under
returns-clause-under c = λ asked program one other is a b s. only_one asked program is one other a b s
