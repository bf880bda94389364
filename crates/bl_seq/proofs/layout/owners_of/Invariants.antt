use Rattle.std.proofs.Common.{◌≡◌, ◌++◌, drop, replicate}
use Rattle.bl_seq.specs.Layouts.{owners_from}
use Rattle.bl_seq.proofs.layout.owners_of.Given as goal

abbrev pub invariant-loop-number : goal.invariant-loop-number
invariant-loop-number l = l.owners.items ++ owners_from l.number (drop l.number l.functions) ≡ replicate 7 0 ++ owners_from 0 l.functions
