use Rattle.std.proofs.Common.{◌≡◌, ◌++◌, replicate, take, flat_map}
use Rattle.bl_validate.proofs.scope.locals_of.Given as goal

abbrev pub invariant-loop-run : goal.invariant-loop-run
invariant-loop-run l = l.locals.items ≡ l.kind.params ++ flat_map (λ run. replicate run.count run.kind) (take l.run-index l.run-items)
