use Rattle.std.proofs.Common.{◌≡◌, suc, take, drop}
use Rattle.bl_leb.specs.Grammar.{◌⨾◌}
use Rattle.bl_format.specs.Grammar.{gap, each_after}
use Rattle.bl_format.specs.WriterAnswers.{HasLength, Rises}
use Rattle.bl_format.proofs.Chains.{behind}
use Rattle.bl_format.proofs.rising.length_of_rising.Given as goal

abbrev pub invariant-loop-thing : goal.invariant-loop-thing
invariant-loop-thing g l = record {
  so_far : HasLength (each_after (λ least x. suc (g.T.Numbered.numbered x)) (λ least x. gap least (g.T.Numbered.numbered x) ⨾ g.T.Numbered.behind x) 0 (take l.thing-index l.things)) l.length;
  next : l.least ≡ behind (λ least x. suc (g.T.Numbered.numbered x)) 0 (take l.thing-index l.things);
  left : Rises g.T.Numbered.numbered l.least (drop l.thing-index l.things);
}
