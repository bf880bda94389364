use Rattle.bl_rob.specs.CallResults.{shown}
use Rattle.bl_rob.proofs.ReachabilityLemmas.{whole_memories}
use Rattle.bl_forward.specs.ForwardMachines.{forward_step}
use Rattle.bl_forward.proofs.ExecutionLemmas.{forward_keeps}
use Rattle.bl_forward.proofs.load.ForwardLoads.outcome.Goals as goal

pub outcome-requires-clause-whole : goal.outcome-requires-clause-whole
outcome-requires-clause-whole c =
    let layout = c.requires.layout in
    let parts = c.args.layout.now.parts.now in
    let most = c.requires.reached.0 in
    whole_memories (forward_step most parts) parts (forward_keeps most parts layout.facts layout.rules) layout.facts layout.rules (shown c.args.machine.now) c.requires.reached.1
