use Rattle.bl_app.proofs.CountLemmas.{executed_least}
use Rattle.bl_app.proofs.laws.protects_by_counts_are_executed_least.Goals as goal

pub returns : goal.returns
returns c = λ tree bytes program other runs hardened linked few alike weighed added h.
    executed_least tree linked few weighed.counts program weighed.is_program hardened h other runs alike added
