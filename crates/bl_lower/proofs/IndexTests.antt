-- The tests of an index, one by one.
use Rattle.std.proofs.Common.{◌≡◌, ℕ, suc, ◌+◌, ◌*◌, List, [], ◌∷◌, length, slice_get, refl, ap, ◌∙◌, arith}
use Rattle.bl_access.specs.Templates.{chain_from, missed, set as set_command, test_of, variable}
use Rattle.bl_ops.specs.declared.op.Op.TheVariants as op
use Rattle.bl_program.specs.declared.command.Operand.{Operand}
use Rattle.bl_program.specs.declared.command.Operand.TheVariants.{Const}
use Rattle.bl_emit.specs.Shapes.{Counts, Slot, armed, uninitialized, mistyped, Shape}
use Rattle.bl_emit.specs.Constructs.{Target, mark_of}
use Rattle.bl_emit.specs.Items.{branch_size, arms_from, arm_size, hits_from, hit_of, calls_in, results_in}
use Rattle.bl_emit.specs.LoweredBodies.{takes_of}
use Rattle.bl_lower.proofs.CodeLayout.{tests, slot_tests, yes_of, no_of}

pub chain_length : (index : Operand) (x j : ℕ) (those : List ℕ) (last at_ depth : ℕ) → length (chain_from index x j those last at_ depth) ≡ 2 * length those
chain_length index x j [] last at_ depth = refl
chain_length index x j (arm ∷ those) last at_ depth = omega (arith, chain_length index (suc x) (suc j) those last (suc (suc at_)) depth)

pub arms_from_length : (results : ℕ) (takes : List ℕ) (position : ℕ) (ls : List ℕ) → length (arms_from results takes position ls) ≡ length ls
arms_from_length results takes position [] = refl
arms_from_length results takes position (l ∷ ls) = ap suc (arms_from_length results takes (position + branch_size results (slice_get takes l)) ls)

pub hits_from_length : (calls : ℕ → Counts) (position : ℕ) (those : List Slot) → length (hits_from calls position those) ≡ length those
hits_from_length calls position [] = refl
hits_from_length calls position (slot ∷ those) = ap suc (hits_from_length calls (position + arm_size calls slot) those)

module _ (shapes : ℕ → Shape) (number : ℕ) where
  -- the last test of a table leads to the next command too
  pub tests_are : (open_ones : List Target) (index : Operand) (position x j arm last : ℕ) (ls : List ℕ) → last ≡ position + 2 * length ls
      → chain_from index x j (arms_from (results_in shapes number) (takes_of open_ones) arm ls) last position (mark_of open_ones) ≡ tests shapes number open_ones index position x j arm ls
  tests_are open_ones index position x j arm last [] e = refl
  tests_are open_ones index position x j arm last (l ∷ ls) e =
      let next = arm + branch_size (results_in shapes number) (slice_get (takes_of open_ones) l) in
      ap (λ n. set_command (mark_of open_ones) op.I32Eq x index (Const j) ∷ test_of (variable x) arm n
      ∷ chain_from index (suc x) (suc j) (arms_from (results_in shapes number) (takes_of open_ones) next ls) last (suc (suc position)) (mark_of open_ones)) (goes ls next e)
      ∙ ap (λ rest. set_command (mark_of open_ones) op.I32Eq x index (Const j) ∷ test_of (variable x) arm (suc (suc position)) ∷ rest)
      (tests_are open_ones index (suc (suc position)) (suc x) (suc j) next last ls (omega (arith, e)))
    where
      goes : (ls : List ℕ) (next : ℕ) → last ≡ position + 2 * suc (length ls) → missed (arms_from (results_in shapes number) (takes_of open_ones) next ls) last (suc (suc position)) ≡ suc (suc position)
      goes [] next e = omega (arith, e)
      goes (l ∷ ls) next e = refl

  pub slot_tests_are : (mark : ℕ) (index : Operand) (position x j at_ : ℕ) (those : List Slot)
      → chain_from index x j (hits_from (calls_in shapes number) at_ those) 4 position mark ≡ slot_tests shapes number mark index position x j at_ those
  slot_tests_are mark index position x j at_ [] = refl
  slot_tests_are mark index position x j at_ (slot ∷ those) =
      let next = at_ + arm_size (calls_in shapes number) slot in
      let rest = chain_from index (suc x) (suc j) (hits_from (calls_in shapes number) next those) 4 (suc (suc position)) mark in
      ap (λ hit. set_command mark op.I32Eq x index (Const j) ∷ test_of (variable x) hit (missed (hits_from (calls_in shapes number) next those) 4 (suc (suc position))) ∷ rest) (hits slot)
      ∙ ap (λ n. set_command mark op.I32Eq x index (Const j) ∷ test_of (variable x) (yes_of shapes number slot at_) n ∷ rest) (goes those next)
      ∙ ap (λ rest. set_command mark op.I32Eq x index (Const j) ∷ test_of (variable x) (yes_of shapes number slot at_) (no_of shapes number those position) ∷ rest)
      (slot_tests_are mark index (suc (suc position)) (suc x) (suc j) next those)
    where
      hits : (slot : Slot) → hit_of slot at_ ≡ yes_of shapes number slot at_
      hits (armed f) = refl
      hits uninitialized = refl
      hits mistyped = refl

      goes : (those : List Slot) (next : ℕ) → missed (hits_from (calls_in shapes number) next those) 4 (suc (suc position)) ≡ no_of shapes number those position
      goes [] next = refl
      goes (slot ∷ those) next = refl
