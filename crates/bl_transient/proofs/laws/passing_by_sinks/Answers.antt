use Rattle.bl_transient.specs.Transient.{nothing}
use Rattle.bl_transient.proofs.LeastTypings.{passing_sinks, passes_if}
use Rattle.bl_transient.proofs.laws.passing_by_sinks.Goals as goal

pub returns : goal.returns
returns c = λ program set. (passing_sinks nothing program set, passes_if program set)
