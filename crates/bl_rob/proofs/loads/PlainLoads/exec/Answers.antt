use Rattle.bl_rob.specs.CallResults.{shown}
use Rattle.bl_rob.proofs.BufferRoom.{executes}
use Rattle.bl_rob.proofs.PolicyLemmas.{executes_few}
use Rattle.bl_rob.proofs.loads.PlainLoads.exec.Goals as goal

pub returns : goal.returns
returns c =
    let parts = c.args.layout.now.parts.now in
    let old = shown c.args.machine.now in
    record {
      few = executes_few parts c.args.n old (shown c.exec.new.self) c.exec.result c.ok_or.result c.exec.ensures c.ok_or.ensures.value;
      step = λ most. executes most parts old (shown c.exec.new.self) c.args.n c.exec.result c.ok_or.result c.exec.ensures c.ok_or.ensures.value;
    }
