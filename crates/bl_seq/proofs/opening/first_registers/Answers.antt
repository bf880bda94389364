use Rattle.std.proofs.Common.{ap}
use Rattle.bl_seq.specs.declared.layout.Frame.{Frame}
use Rattle.bl_seq.proofs.InitialMachine.{registers_of}
use Rattle.bl_seq.proofs.opening.first_registers.Goals as goal

pub returns : goal.returns
returns c =
    registers_of c.args.layout.now.parts.now c.args.function c.args.start.now c.with_arguments.result c.in_ok-registers.registers c.frame-first.result.first
    c.as_slice.result.now (ap (λ (f : Frame). f.first) c.frame-first.ensures.is) c.as_slice.ensures c.in_ok-registers.ensures c.with_arguments.ensures
