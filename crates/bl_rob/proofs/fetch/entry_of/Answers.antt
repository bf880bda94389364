use Rattle.std.proofs.Common.{◌≡◌, ap, arith}
use Rattle.bl_program.specs.Layout.{entry_of}
use Rattle.bl_program.proofs.Entries.{entry_small}
use Rattle.bl_seq.specs.declared.layout.Frame.{Frame}
use Rattle.bl_rob.proofs.fetch.entry_of.Goals as goal

pub overflow_cast-result : goal.overflow_cast-result
overflow_cast-result c =
    let is : c.frame.result.entry ≡ entry_of c.args.layout.now.parts.now c.args.function = ap (λ (f : Frame). f.entry) c.frame.ensures.is in
    let small = entry_small c.args.layout.now.parts.now c.args.function c.requires.facts c.requires.rules in
    omega arith
