use Rattle.std.proofs.lemmas.Bool.{false≢true}
use Rattle.bl_transient.specs.Transient.{nothing}
use Rattle.bl_cut.proofs.LeastExists.{some_least}
use Rattle.bl_cut.proofs.laws.some_set_is_least.Goals as goal

pub returns-clause-least : goal.returns-clause-least
returns-clause-least c = λ program is. some_least nothing program is (λ x transient. absurd (false≢true transient)) (λ x transient barred. absurd (false≢true transient))

pub returns-clause-under : goal.returns-clause-under
returns-clause-under c = λ asked program is transients apart. some_least asked program is transients apart
