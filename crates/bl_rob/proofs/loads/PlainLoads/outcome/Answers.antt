use Rattle.bl_rob.specs.CallResults.{shown}
use Rattle.bl_rob.specs.Machines.{directive_step}
use Rattle.bl_rob.proofs.ReachabilityLemmas.{steps_keep, whole_memories}
use Rattle.bl_rob.proofs.loads.PlainLoads.outcome.Goals as goal

pub outcome-requires-clause-whole : goal.outcome-requires-clause-whole
outcome-requires-clause-whole c =
    let parts = c.args.layout.now.parts.now in
    let most = c.requires.reached.0 in
    whole_memories (directive_step most parts) parts (steps_keep most parts) c.requires.layout.facts c.requires.layout.rules (shown c.args.machine.now) c.requires.reached.1
