use Rattle.std.proofs.Common.{◌≡◌, ◌≤◌, length, drop}
use Rattle.bl_image.specs.ReaderAnswers.{Begins}
use Rattle.bl_image.proofs.ReadChains.{counted}
use Rattle.bl_image.proofs.read.read_each.Given as goal

abbrev pub invariant-loop : goal.invariant-loop
invariant-loop g l = record {
  inside : l.place ≤ length l.bytes;
  so_far : Begins (counted (λ state x. state) (λ state. g.T.Read.spells) (tt {0}) (length l.things)) (drop l.at l.bytes) l.things (drop l.place l.bytes);
  many : length l.things ≡ l.counter;
}
