-- In a table of addresses that is that of the code, no two positions have one address, so each position is found by its address.
use Rattle.std.proofs.Common.{◌≡◌, ℕ, zero, suc, ◌+◌, ◌<◌, ◌≤◌, Bool, true, false, cond, eqb, nat_lt, ◌^◌, ◌⊎◌, inl, inr, Some, List, [], ◌∷◌, length, refl, sym, ap, ◌∙◌, arith}
use Rattle.std.proofs.lemmas.Bool.{cases_lt, eq-eqb, eqb-true}
use Rattle.bl_x64.specs.Registers.{code_of}
use Rattle.bl_x64.specs.Machines.{Areas}
use Rattle.bl_x64.specs.Programs.{position_of}
use Rattle.bl_x64.specs.declared.instruction.Instruction.{Instruction}
use Rattle.bl_x64.specs.declared.instruction.Instruction.TheVariants.{Mov, Store, Constant, Extend, Alu, Test, Imul, Rotate, Count, SetIf, MoveIf, FillSign, Divide, Lfence, Jump, JumpIf, Call, Ret}
use Rattle.bl_x64.specs.declared.instruction.Place.{Place}
use Rattle.bl_x64.specs.declared.instruction.Width.{Width}
use Rattle.bl_x64.specs.declared.instruction.Width.TheVariants as width
use Rattle.bl_asm.specs.Assembly.{place_of}
use Rattle.bl_asm.specs.ByteMachines.{HasHost, HasPlaces}
use Rattle.bl_asm.specs.Encoding.{constant_bytes, encoded, store_bytes}

-- ---- each instruction has a byte or more

store_some : (size : Width) (reg : ℕ) (place : Place) → 1 ≤ length (store_bytes size reg place)
store_some width.Byte reg place = omega arith
store_some width.Word reg place = omega arith
store_some width.Long reg place = omega arith
store_some width.Quad reg place = omega arith

constant_some : (short : Bool) (reg value : ℕ) → 1 ≤ length (constant_bytes short reg value)
constant_some true reg value = omega arith
constant_some false reg value = omega arith

encoded_some : (i : Instruction) → 1 ≤ length (encoded i)
encoded_some (Mov size to from) = omega arith
encoded_some (Store size to from) = store_some size _ _
encoded_some (Constant to value) = constant_some (nat_lt value (2 ^ 32)) (code_of to) value
encoded_some (Extend how size to from) = omega arith
encoded_some (Alu op size to from) = omega arith
encoded_some (Test size one other) = omega arith
encoded_some (Imul size to from) = omega arith
encoded_some (Rotate op size to) = omega arith
encoded_some (Count op size to from) = omega arith
encoded_some (SetIf condition to) = omega arith
encoded_some (MoveIf condition size to from) = omega arith
encoded_some (FillSign size) = omega arith
encoded_some (Divide sign size divisor) = omega arith
encoded_some Lfence = omega arith
encoded_some (Jump to) = omega arith
encoded_some (JumpIf condition to) = omega arith
encoded_some (Call to) = omega arith
encoded_some Ret = omega arith

-- ---- places rise

place_rises : (code : List Instruction) (j k : ℕ) → j < k → k ≤ length code → place_of code j < place_of code k
place_rises code zero zero lt le = absurd (omega arith)
place_rises code (suc j) zero lt le = absurd (omega arith)
place_rises [] zero (suc k) lt le = absurd (omega arith)
place_rises [] (suc j) (suc k) lt le = absurd (omega arith)
place_rises (i ∷ code) zero (suc k) lt le = omega (arith, encoded_some i)
place_rises (i ∷ code) (suc j) (suc k) lt le = omega (arith, place_rises code j k (omega arith) (omega arith))

-- ---- positions

found : (starts : ℕ → ℕ) (count k : ℕ) → k < count → ((j : ℕ) → k < j → j < count → starts j ≡ starts k → ⊥) → position_of starts count (starts k) ≡ Some k
found starts zero k lt apart = absurd (omega arith)
found starts (suc count) k lt apart = by_test (eqb (starts count) (starts k)) refl (cases_lt k count) (λ below. found starts count k below (λ j above within. apart j above (omega (arith, within))))
  where
    by_test : (t : Bool) → eqb (starts count) (starts k) ≡ t → (k < count) ⊎ (count ≤ k) → (k < count → position_of starts count (starts k) ≡ Some k)
        → cond t (Some count) (position_of starts count (starts k)) ≡ Some k
    by_test true is (inl below) more = absurd (apart count below (omega arith) (eqb-true (starts count) (starts k) is))
    by_test true is (inr le) more = let same : count ≡ k = omega arith in ap (λ x. Some x) same
    by_test false is (inl below) more = more below
    by_test false is (inr le) more =
        let same : count ≡ k = omega arith in
        let yes_is = eq-eqb (starts count) (starts k) (ap starts same) in
        let both = sym yes_is ∙ is in
        cc

-- a later position has another address
apart_in : (areas : Areas) (code : List Instruction) → HasPlaces areas code → HasHost areas code → (k j : ℕ) → k < j → j < length code + 2 → areas.starts j ≡ areas.starts k → ⊥
apart_in areas code at away k j lt within e = by_order (cases_lt j (length code + 1))
  where
    by_order : (j < length code + 1) ⊎ (length code + 1 ≤ j) → ⊥
    by_order (inl below) =
        let one = at.each j (omega (arith, below)) in
        let other = at.each k (omega (arith, below, lt)) in
        omega (arith, e, one, other, place_rises code k j lt (omega (arith, below)))
    by_order (inr le) =
        let last : j ≡ length code + 1 = omega (arith, within, le) in
        away.apart k (omega (arith, lt, last)) (sym e ∙ ap areas.starts last)

pub address_found : (areas : Areas) (code : List Instruction) → HasPlaces areas code → HasHost areas code → (k : ℕ) → k ≤ length code + 1
    → position_of areas.starts (length code + 2) (areas.starts k) ≡ Some k
address_found areas code at away k h = found areas.starts (length code + 2) k (omega (arith, h)) (apart_in areas code at away k)
