use Rattle.std.proofs.Common.{◌≡◌, ◌∙◌, ◌≤◌, sym, subst, arith}
use Rattle.std.specs.Prelude.{IsFalse, IsTrue}
use Rattle.bl_ops.specs.Access.{is_load}
use Rattle.bl_wasm.specs.Linked.{IsLinked}
use Rattle.tests_interpreter.proofs.MemoryLemmas.{is_linked}
use Rattle.tests_interpreter.proofs.memory.linked.Goals as goal

pub of-requires : goal.of-requires
of-requires c =
    let setting = c.args.setting.now in
    let stores : IsFalse (is_load setting.store) = sym c.is_load.ensures ∙ c.if-is_load.false in
    let loads : IsTrue (is_load setting.load) = sym c.is_load-else-is_load.ensures ∙ c.if-not-is_load.false in
    subst IsLinked (sym c.in_ok-tree.ensures)
    (is_linked setting.store setting.load setting.offset setting.pages setting.reserve stores loads c.tell_width.ensures (omega (arith, c.if-setting.false)) (omega (arith, c.if-setting-gt256.false)))
