use Rattle.std.proofs.Common.{◌≡◌, ◌++◌, ◌+◌, drop}
use Rattle.bl_iface.specs.RoleLists.{called_from}
use Rattle.bl_iface.proofs.lists.push_called.Given as goal

abbrev pub invariant-loop-one : goal.invariant-loop-one
invariant-loop-one l = record {
  place : l.x ≡ l.first + l.one-index;
  rest : l.to ++ called_from l.flow (drop l.one-index l.flows) l.x ≡ l.fn.to ++ called_from l.flow l.flows l.first;
}
