use Rattle.bl_seq.specs.Machines.{shown as shown_plain}
use Rattle.bl_rob.proofs.InitialMachine.{begun}
use Rattle.bl_rob.proofs.machine.Machine.begin.Goals as goal

pub returns : goal.returns
returns c =
    begun c.args.layout.now.parts.now c.args.function c.args.start.now (shown_plain c.in_ok-first.first) c.entry_of.result c.new.result c.new-2.result.items
    c.in_ok-first.ensures c.entry_of.ensures c.new.ensures c.new-2.ensures.items
