use Rattle.std.proofs.Common.{◌≡◌, ℕ, Some, ap, sym, arith, ◌∙◌}
use Rattle.bl_seq.specs.RegisterTrees.{register_at}
use Rattle.bl_rob.proofs.VisibleValues.{unwritten_whole, written_here}
use Rattle.bl_rob.proofs.visible.visible.Goals as goal

pub returns-then-writes : goal.returns-then-writes
returns-then-writes c =
    let registers : (ℕ → ℕ → ℕ) = λ depth x. register_at c.args.registers.now depth x in
    c.value.ensures
    ∙ written_here c.args.entries.now c.args.x c.loop-left.left c.index-entries-left.result c.loop-left.invariant c.loop-left-test.true c.index-entries-left.is
    registers (sym c.writes.ensures ∙ c.if-writes.true)

pub returns : goal.returns
returns c =
    let registers : (ℕ → ℕ → ℕ) = λ depth x. register_at c.args.registers.now depth x in
    let none : c.loop-left.left ≡ 0 = omega (arith, c.loop-left-test.false) in
    ap Some c.at.ensures ∙ unwritten_whole c.args.entries.now c.args.x registers c.loop-left.left none c.loop-left.invariant
