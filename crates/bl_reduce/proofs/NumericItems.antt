-- Steps of numeric instructions keep types.
use Rattle.std.proofs.Common.{◌≡◌, ℕ, zero, suc, ◌<◌, ◌^◌, List, [], ◌∷◌, ◌++◌, replicate, reverse, take, drop, Option, Some, None, subst, arith}
use Rattle.std.specs.Prelude.{IfSome}
use Rattle.std.specs.List.{AllZip}
use Rattle.bl_base.specs.Fits.{ArgumentFits}
use Rattle.bl_base.specs.declared.names.ValueType.{ValueType}
use Rattle.bl_base.specs.declared.trap.Trap.{Trap}
use Rattle.bl_ops.proofs.Fits.{meaning_fits}
use Rattle.bl_ops.specs.Numerics.{meaning, traps}
use Rattle.bl_ops.specs.OperatorTable.{row_of}
use Rattle.bl_ops.specs.declared.op.Op.{Op}
use Rattle.bl_ops.specs.declared.op.Op.TheVariants.{I32Eqz}
use Rattle.bl_ops.specs.declared.op.OpRow.{OpRow}
use Rattle.bl_wasm.specs.Typing.{Open, Arrow, integer}
use Rattle.bl_wasm.specs.declared.types.WasmType.{WasmType}
use Rattle.bl_wasm.specs.declared.linked.Signature.{Signature}
use Rattle.bl_wasm.specs.declared.linked.Tree.{Tree}
use Rattle.bl_reduce.specs.Configurations.{State, with_values}
use Rattle.bl_reduce.specs.Numeric.{give, apply, operate}
use Rattle.bl_reduce.specs.TypedConfigurations.{IsValue, BeginsWith, IsTypedStep}
use Rattle.bl_reduce.proofs.Ready.{Ready, Onto, onto, taken, revalued, pushing, trapping, knowing, integer_value, value_below}

-- an operator takes one operand or two
abbrev IsOneOrTwo : ℕ → Type 0
IsOneOrTwo zero = ⊥
IsOneOrTwo (suc zero) = Unit {0}
IsOneOrTwo (suc (suc zero)) = Unit {0}
IsOneOrTwo (suc (suc (suc n))) = ⊥

operands_few : (op : Op) → IfSome (row_of op) (λ row. IsOneOrTwo row.operands)
operands_few op = elim op as (λ op. IfSome (row_of op) (λ row. IsOneOrTwo row.operands)) [ I32Eqz ↦ tt | _ ↦ tt ]

row_fact : (P : OpRow → Type 0) (o : Option OpRow) (row : OpRow) → o ≡ Some row → IfSome o P → P row
row_fact P o row e h = subst (λ o. IfSome o P) e h

module _ (tree : Tree) (results : List ValueType) (type : Signature) (open_ones : List Open) where
  giving : (o : Option Trap) (kind : WasmType) (value : ℕ) (top : List WasmType) (state : State) → Ready tree results type open_ones top state → IsValue kind value
      → Onto tree results type open_ones (kind ∷ top) state → IsTypedStep tree results (give o value state)
  giving None kind value top state ready h on = pushing tree results type open_ones top kind value state ready h on
  giving (Some trap) kind value top state ready h on = trapping tree results type open_ones top trap state ready

  module _ (op : Op) (row : OpRow) (is_row : row_of op ≡ Some row) where
    given : (a b : ℕ) → a < 2 ^ 64 → b < 2 ^ 64 → IsValue (integer row.to) (meaning op a b 0)
    given a b h i =
        integer_value row.to (meaning op a b 0) (row_fact (λ row. ArgumentFits row.to (meaning op a b 0)) (row_of op) row is_row (meaning_fits op a b 0 h i))

    applying : (count : ℕ) (values : List ℕ) (kind : WasmType) (low : List WasmType) (state : State) → IsOneOrTwo count
        → AllZip IsValue (reverse (replicate count kind) ++ low) values → Ready tree results type open_ones (reverse (replicate count kind) ++ low) state
        → Onto tree results type open_ones (integer row.to ∷ low) state
        → IsTypedStep tree results (apply op (take count values) (with_values (drop count values) state))
    applying zero values kind low state few h ready on = absurd few
    applying (suc zero) [] kind low state few h ready on = absurd h
    applying (suc zero) (a ∷ values) kind low state few h ready on =
        giving (traps op a 0) (integer row.to) (meaning op a 0 0) low (with_values values state)
        (revalued tree results type open_ones (kind ∷ low) low values state ready h.1) (given a 0 (value_below kind a h.0) (omega arith))
        (record { stack = on.stack; turned = on.turned; begins = on.begins })
    applying (suc (suc zero)) [] kind low state few h ready on = absurd h
    applying (suc (suc zero)) (b ∷ []) kind low state few h ready on = absurd h.1
    applying (suc (suc zero)) (b ∷ a ∷ values) kind low state few h ready on =
        giving (traps op a b) (integer row.to) (meaning op a b 0) low (with_values values state)
        (revalued tree results type open_ones (kind ∷ kind ∷ low) low values state ready h.1.1) (given a b (value_below kind a h.1.0) (value_below kind b h.0))
        (record { stack = on.stack; turned = on.turned; begins = on.begins })
    applying (suc (suc (suc n))) values kind low state few h ready on = absurd few

    pub operate_steps : (from to : List WasmType) (state : State) → Arrow (replicate row.operands (integer row.from)) (integer row.to ∷ []) from to
        → Ready tree results type open_ones (reverse from) state → BeginsWith tree type open_ones to state.frame → IsTypedStep tree results (operate op state)
    operate_steps from to state a ready begins =
        let r = taken tree results type open_ones from a.lower (replicate row.operands (integer row.from)) state a.before ready in
        knowing tree results (row_of op) row (λ row. apply op (take row.operands state.frame.values) (with_values (drop row.operands state.frame.values) state)) is_row
        (applying row.operands state.frame.values (integer row.from) (reverse a.lower) state
        (row_fact (λ row. IsOneOrTwo row.operands) (row_of op) row is_row (operands_few op)) r.values r
        (onto tree results type open_ones to a.lower (integer row.to ∷ []) state a.behind begins))
