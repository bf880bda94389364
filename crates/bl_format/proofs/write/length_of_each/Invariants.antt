use Rattle.std.proofs.Common.{take}
use Rattle.bl_format.specs.Grammar.{each}
use Rattle.bl_format.specs.WriterAnswers.{HasLength}
use Rattle.bl_format.proofs.write.length_of_each.Given as goal

abbrev pub invariant-loop-thing : goal.invariant-loop-thing
invariant-loop-thing g l = HasLength (each g.T.Write.written (take l.thing-index l.things)) l.length
