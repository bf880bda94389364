-- Every operator has one operand or two.
use Rattle.std.proofs.Common.{◌≡◌, ℕ, ◌≤◌, ◌⊎◌, inl, inr, length, take, drop, Option, Some, None, refl, sym, subst, arith}
use Rattle.bl_ops.specs.OperatorTable.{row_of, row_operands}
use Rattle.bl_ops.specs.declared.op.Op.{Op}
use Rattle.bl_ops.specs.declared.op.Op.TheVariants.{I32Eqz, I64Eqz, I32Clz, I32Ctz, I32Popcnt, I64Clz, I64Ctz, I64Popcnt, I32WrapI64, I64ExtendI32S, I64ExtendI32U, I32Extend8S, I32Extend16S, I64Extend8S, I64Extend16S, I64Extend32S, Move, Select, Outside}
use Rattle.bl_ops.specs.declared.op.OpRow.{OpRow}
use Rattle.bl_wasm.specs.declared.linked.Tree.{Tree}
use Rattle.bl_reduce.specs.Configurations.{State, known, with_values}
use Rattle.bl_reduce.specs.Numeric.{apply, operate}
use Rattle.bl_machine.specs.MatchStates.{IsState, simulates}
use Rattle.bl_machine.specs.Transitions.{operated_on, operated}
use Rattle.bl_machine.specs.declared.machine.Machine.{Machine}
use Rattle.bl_machine.proofs.StraightLineSimulation.{Then, one_operand, two_operands}

abbrev OneOrTwo : Option OpRow → Type 0
OneOrTwo None = Unit {0}
OneOrTwo (Some row) = (row.operands ≡ 1) ⊎ (row.operands ≡ 2)

one_or_two : (op : Op) → OneOrTwo (row_of op)
one_or_two I32Eqz = inl refl
one_or_two I64Eqz = inl refl
one_or_two I32Clz = inl refl
one_or_two I32Ctz = inl refl
one_or_two I32Popcnt = inl refl
one_or_two I64Clz = inl refl
one_or_two I64Ctz = inl refl
one_or_two I64Popcnt = inl refl
one_or_two I32WrapI64 = inl refl
one_or_two I64ExtendI32S = inl refl
one_or_two I64ExtendI32U = inl refl
one_or_two I32Extend8S = inl refl
one_or_two I32Extend16S = inl refl
one_or_two I64Extend8S = inl refl
one_or_two I64Extend16S = inl refl
one_or_two I64Extend32S = inl refl
one_or_two Move = tt
one_or_two Select = tt
one_or_two Outside = tt
one_or_two op = inr refl

module _ (tree : Tree) (op : Op) (m : Machine) (state : State) (is : IsState tree m state) where
  abbrev Applied : ℕ → Type 0
  Applied n = simulates tree (operated_on op n m) (apply op (take n state.frame.values) (with_values (drop n state.frame.values) state))

  by_count : (n : ℕ) → (n ≡ 1) ⊎ (n ≡ 2) → n ≤ length state.frame.values → Applied n
  by_count n (inl e) le = subst Applied (sym e) (one_operand tree op m state is (omega (arith, e, le)))
  by_count n (inr e) le = subst Applied (sym e) (two_operands tree op m state is (omega (arith, e, le)))

  pub operate_simulates : ((row : OpRow) → row_of op ≡ Some row → row.operands ≤ length state.frame.values) → Then tree (operated op m) (operate op state)
  operate_simulates enough = from (row_of op) refl (one_or_two op)
    where
      from : (o : Option OpRow) → row_of op ≡ o → OneOrTwo o
          → Then tree (operated_on op (row_operands o) m) (known o (λ row. apply op (take row.operands state.frame.values) (with_values (drop row.operands state.frame.values) state)))
      from None e which has = absurd has
      from (Some row) e which has = by_count row.operands which (enough row e)
