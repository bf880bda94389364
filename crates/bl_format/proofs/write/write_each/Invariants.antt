use Rattle.std.proofs.Common.{take}
use Rattle.bl_format.specs.Grammar.{each}
use Rattle.bl_format.specs.WriterAnswers.{Adds}
use Rattle.bl_format.proofs.write.write_each.Given as goal

abbrev pub invariant-loop-thing : goal.invariant-loop-thing
invariant-loop-thing g l = Adds (each g.T.Write.written (take l.thing-index l.things)) l.fn.to.items l.to.items
