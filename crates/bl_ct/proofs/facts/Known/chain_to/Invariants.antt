use Rattle.bl_ct.specs.declared.search.Step.{Step}
use Rattle.bl_ct.specs.SecretSearch.{Has, LeadsOn}
use Rattle.bl_ct.proofs.ReadBackChains.{back}
use Rattle.bl_ct.proofs.facts.Known.chain_to.Given as goal

abbrev pub invariant-loop-place : goal.invariant-loop-place
invariant-loop-place l = (step : Step) × Has l.queue l.place step × LeadsOn l.self.program.now step (back l.sites.items) l.leak.end

abbrev pub decreases-loop-place : goal.decreases-loop-place
decreases-loop-place l = l.place
