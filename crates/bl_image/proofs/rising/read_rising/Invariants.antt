use Rattle.std.proofs.Common.{◌≡◌, ◌≤◌, ◌^◌, suc, length, drop}
use Rattle.bl_leb.specs.Grammar.{◌⨾◌}
use Rattle.bl_format.specs.Grammar.{gap}
use Rattle.bl_image.specs.ReaderAnswers.{Begins}
use Rattle.bl_format.proofs.Chains.{behind}
use Rattle.bl_image.proofs.ReadChains.{counted}
use Rattle.bl_image.proofs.rising.read_rising.Given as goal

abbrev pub invariant-loop : goal.invariant-loop
invariant-loop g l = record {
  inside : l.place ≤ length l.bytes;
  so_far : Begins (counted (λ least x. suc (g.T.Numbered.numbered x)) (λ least x. gap least (g.T.Numbered.numbered x) ⨾ g.T.Numbered.behind x) 0 (length l.things)) (drop l.at l.bytes) l.things (drop l.place l.bytes);
  many : length l.things ≡ l.counter;
  next : l.least ≡ behind (λ least x. suc (g.T.Numbered.numbered x)) 0 l.things;
  small : l.least ≤ 2 ^ 32;
}
