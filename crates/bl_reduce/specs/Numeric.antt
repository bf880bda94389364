-- Numeric instructions (WebAssembly 1.0, section 4.4.1).
use Rattle.std.specs.Prelude.{ℕ, List, [], ◌∷◌, take, drop, Option, Some, None}
use Rattle.bl_base.specs.Runs.{Next, stuck}
use Rattle.bl_base.specs.declared.trap.Trap.{Trap}
use Rattle.bl_ops.specs.Numerics.{meaning, traps}
use Rattle.bl_ops.specs.OperatorTable.{row_of}
use Rattle.bl_ops.specs.declared.op.Op.{Op}
use Rattle.bl_reduce.specs.Configurations.{State, Config, trap, known, push, with_values}

-- the trap where the operator has one, else the number that it gives is put on the stack
abbrev pub give : Option Trap → ℕ → State → Next Config
give None value state = push value state
give (Some kind) value state = trap kind state

-- an operator of exactly these operands, the last one first
abbrev pub apply : Op → List ℕ → State → Next Config
apply op (a ∷ []) state = give (traps op a 0) (meaning op a 0 0) state
apply op (b ∷ a ∷ []) state = give (traps op a b) (meaning op a b 0) state
apply op other state = stuck

-- t.unop, t.binop, t.testop, t.relop, t.cvtop: the operands are taken off
abbrev pub operate : Op → State → Next Config
operate op state =
    known (row_of op) (λ row. apply op (take row.operands state.frame.values) (with_values (drop row.operands state.frame.values) state))
