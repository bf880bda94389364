use Rattle.std.proofs.Common.{◌≡◌, ◌+◌, ◌-◌, ◌++◌}
use Rattle.bl_program.specs.Steps.{values_from}
use Rattle.bl_seq.specs.RegisterTrees.{register_at}
use Rattle.bl_seq.proofs.runs.results.Given as goal

abbrev pub invariant-loop-i : goal.invariant-loop-i
invariant-loop-i l = l.values ++ values_from (λ depth x. register_at l.registers depth x) 0 (l.first + l.i) (l.i-end - l.i) ≡ values_from (λ depth x. register_at l.registers depth x) 0 l.first l.i-end
