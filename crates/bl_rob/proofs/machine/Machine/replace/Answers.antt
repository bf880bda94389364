use Rattle.std.proofs.Common.{refl}
use Rattle.bl_rob.specs.CallResults.{shown}
use Rattle.bl_rob.proofs.StepLemmas.{put_at}
use Rattle.bl_rob.proofs.machine.Machine.replace.Goals as goal

pub returns : goal.returns
returns c = λ entry h.
    put_at c.args.n c.index_mut.result.now.position (shown c.args.self.now) entry c.index_mut.result.now c.args.work h c.index_mut.ensures.value c.requires refl
