use Rattle.std.proofs.Common.{ap}
use Rattle.bl_seq.specs.declared.layout.Frame.{Frame}
use Rattle.bl_seq.proofs.InitialMachine.{opens}
use Rattle.bl_seq.proofs.opening.begin.Goals as goal

pub returns : goal.returns
returns c =
    opens c.args.layout.now.parts.now c.args.function c.args.start.now c.frame-entry.result.entry c.new.result c.in_ok-registers.registers c.in_ok-space.space
    (ap (λ (f : Frame). f.entry) c.frame-entry.ensures.is) c.new.ensures c.in_ok-registers.ensures c.in_ok-space.ensures
