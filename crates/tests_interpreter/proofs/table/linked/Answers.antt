use Rattle.std.proofs.Common.{sym, subst}
use Rattle.bl_wasm.specs.Linked.{IsLinked}
use Rattle.tests_interpreter.proofs.TableLemmas.{is_linked}
use Rattle.tests_interpreter.proofs.table.linked.Goals as goal

pub of-requires : goal.of-requires
of-requires c = subst IsLinked (sym c.in_ok-tree.ensures) is_linked
