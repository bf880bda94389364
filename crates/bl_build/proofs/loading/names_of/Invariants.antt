use Rattle.std.proofs.Common.{◌≡◌, ◌++◌, map, drop}
use Rattle.bl_build.specs.declared.loading.Ready.{Ready}
use Rattle.bl_build.proofs.loading.names_of.Given as goal

abbrev pub invariant-loop-one : goal.invariant-loop-one
invariant-loop-one l = l.names.items ++ map (λ (one : Ready). one.name) (drop l.one-index l.ready) ≡ map (λ (one : Ready). one.name) l.ready
