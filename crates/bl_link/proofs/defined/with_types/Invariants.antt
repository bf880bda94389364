use Rattle.std.proofs.Common.{◌≡◌, ◌++◌, map, drop}
use Rattle.bl_link.specs.Signatures.{signature}
use Rattle.bl_link.proofs.defined.with_types.Given as goal

abbrev pub invariant-loop-kind : goal.invariant-loop-kind
invariant-loop-kind l = l.types ++ map signature (drop l.kind-index l.defined) ≡ l.fn.before ++ map signature l.fn.defined
