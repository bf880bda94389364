-- The conditions on the flags of a difference say how its operands compare.
use Rattle.std.proofs.Common.{◌≡◌, ℕ, ◌+◌, ◌-◌, ◌*◌, ◌/◌, ◌%◌, ◌^◌, ◌<◌, ◌≤◌, ◌⊎◌, inl, inr, Bool, true, false, not, ◌&&◌, ◌||◌, cond, eqb, ltb, leb, Some, ℤ, pos, ◌-ℤ◌, ◌<ℤ◌, ◌≤ℤ◌, refl, sym, ap, ap₂, ◌∙◌, arith, mod-eq_of_lt, eq-eqb}
use Rattle.std.specs.Prelude.{int_lt, int_le}
use Rattle.std.proofs.lemmas.Bool.Decides.{nat_tests}
use Rattle.std.proofs.lemmas.Bool.{cases_lt, ltb-true, ltb-false, eqb-true, eqb-false}
use Rattle.std.proofs.Math.Nat.{add-mod_right}
use Rattle.std.proofs.lemmas.Int.{ints}
use Rattle.bl_ops.specs.Integer.{signed}
use Rattle.bl_x64.specs.Registers.{bits_of}
use Rattle.bl_x64.specs.Operations.{is_negative, overflows, alu_flags, alu_result, holds, differ}
use Rattle.bl_x64.specs.declared.instruction.Size.{Size}
use Rattle.bl_x64.specs.declared.instruction.Size.TheVariants.{Long, Quad}
use Rattle.bl_x64.specs.declared.instruction.Alu.TheVariants.{Cmp}
use Rattle.bl_x64.specs.declared.instruction.Condition.{Condition}
use Rattle.bl_x64.specs.declared.instruction.Condition.TheVariants.{Below, AboveOrEqual, Equal, NotEqual, BelowOrEqual, Above, Less, GreaterOrEqual, LessOrEqual, Greater}
use Rattle.bl_select.specs.Shapes.{compares}

-- ---- tests

pub same_test : (s t : Bool) → (s ≡ true → t ≡ true) → (t ≡ true → s ≡ true) → s ≡ t
same_test true true f g = refl
same_test true false f g = sym (f refl)
same_test false true f g = g refl
same_test false false f g = refl

-- the reading of a number as a signed one, where half of the numbers are below h
abbrev IsReading : ℕ → ℕ → ℤ → Type 0
IsReading h a x = ((a < h) × (x ≡ pos a)) ⊎ ((h ≤ a) × (x ≡ pos a -ℤ pos (2 * h)))

-- the difference
abbrev IsDifference : ℕ → ℕ → ℕ → ℕ → Type 0
IsDifference h a b r = ((b ≤ a) × (r ≡ a - b)) ⊎ ((a < b) × (r ≡ a + 2 * h - b))

module _ (h a b r : ℕ) (x y : ℤ) (a_small : a < 2 * h) (b_small : b < 2 * h) (r_is : IsDifference h a b r) (x_is : IsReading h a x) (y_is : IsReading h b y) where
  less_by : (t1 t2 t3 l : Bool) → ltb r h ≡ t1 → int_le (pos 0 -ℤ pos h) (x -ℤ y) ≡ t2 → int_lt (x -ℤ y) (pos h) ≡ t3 → int_lt x y ≡ l
      → differ (not t1) (not (t2 && t3)) ≡ l
  less_by true true true true e1 e2 e3 e4 = absurd (omega (arith, ints, ltb-true, ltb-false))
  less_by true true true false e1 e2 e3 e4 = refl
  less_by true true false true e1 e2 e3 e4 = refl
  less_by true true false false e1 e2 e3 e4 = absurd (omega (arith, ints, ltb-true, ltb-false))
  less_by true false true true e1 e2 e3 e4 = refl
  less_by true false true false e1 e2 e3 e4 = absurd (omega (arith, ints, ltb-true, ltb-false))
  less_by true false false true e1 e2 e3 e4 = refl
  less_by true false false false e1 e2 e3 e4 = absurd (omega (arith, ints, ltb-true, ltb-false))
  less_by false true true true e1 e2 e3 e4 = refl
  less_by false true true false e1 e2 e3 e4 = absurd (omega (arith, ints, ltb-true, ltb-false))
  less_by false true false true e1 e2 e3 e4 = absurd (omega (arith, ints, ltb-true, ltb-false))
  less_by false true false false e1 e2 e3 e4 = refl
  less_by false false true true e1 e2 e3 e4 = absurd (omega (arith, ints, ltb-true, ltb-false))
  less_by false false true false e1 e2 e3 e4 = refl
  less_by false false false true e1 e2 e3 e4 = absurd (omega (arith, ints, ltb-true, ltb-false))
  less_by false false false false e1 e2 e3 e4 = refl

  less_is : differ (not (ltb r h)) (not (int_le (pos 0 -ℤ pos h) (x -ℤ y) && int_lt (x -ℤ y) (pos h))) ≡ int_lt x y
  less_is = less_by (ltb r h) (int_le (pos 0 -ℤ pos h) (x -ℤ y)) (int_lt (x -ℤ y) (pos h)) (int_lt x y) refl refl refl refl

-- ---- at both sizes

difference_is : (h a b : ℕ) → 0 < h → a < 2 * h → b < 2 * h → IsDifference h a b ((a + 2 * h - b) % (2 * h))
difference_is h a b some p q = by_order (cases_lt a b)
  where
    by_order : (a < b) ⊎ (b ≤ a) → IsDifference h a b ((a + 2 * h - b) % (2 * h))
    by_order (inl lt) = inr (lt, mod-eq_of_lt (omega arith))
    by_order (inr le) = inl (le, ap (λ (x : ℕ). x % (2 * h)) (omega arith) ∙ add-mod_right (a - b) (2 * h) ∙ mod-eq_of_lt (omega arith))

reading_is : (h a : ℕ) → IsReading h a (cond (ltb a h) (pos a) (pos a -ℤ pos (2 * h)))
reading_is h a = by_test (ltb a h) refl
  where
    by_test : (t : Bool) → ltb a h ≡ t → IsReading h a (cond t (pos a) (pos a -ℤ pos (2 * h)))
    by_test true e = inl (ltb-true a h e, refl)
    by_test false e = inr (ltb-false a h e, refl)

less_at : (size : Size) (a b : ℕ) → a < 2 ^ bits_of size → b < 2 ^ bits_of size
    → differ (is_negative (bits_of size) (alu_result Cmp (bits_of size) a b)) (overflows (bits_of size) (signed (bits_of size) a -ℤ signed (bits_of size) b))
    ≡ int_lt (signed (bits_of size) a) (signed (bits_of size) b)
less_at Long a b p q = less_is 2147483648 a b _ _ _ p q (difference_is 2147483648 a b (omega arith) p q) (reading_is 2147483648 a) (reading_is 2147483648 b)
less_at Quad a b p q = less_is 9223372036854775808 a b _ _ _ p q (difference_is 9223372036854775808 a b (omega arith) p q) (reading_is 9223372036854775808 a) (reading_is 9223372036854775808 b)

zero_by : (h a b r : ℕ) → a < 2 * h → b < 2 * h → IsDifference h a b r → eqb r 0 ≡ eqb a b
zero_by h a b r p q is = same_test (eqb r 0) (eqb a b) (λ e. eq-eqb a b (omega (arith, is, eqb-true r 0 e))) (λ e. eq-eqb r 0 (omega (arith, is, eqb-true a b e)))

zero_at : (size : Size) (a b : ℕ) → a < 2 ^ bits_of size → b < 2 ^ bits_of size → eqb (alu_result Cmp (bits_of size) a b) 0 ≡ eqb a b
zero_at Long a b p q = zero_by 2147483648 a b _ p q (difference_is 2147483648 a b (omega arith) p q)
zero_at Quad a b p q = zero_by 9223372036854775808 a b _ p q (difference_is 9223372036854775808 a b (omega arith) p q)

-- ---- each condition

not_below : (a b : ℕ) → not (ltb a b) ≡ leb b a
not_below a b = grind (arith, nat_tests)

below_or_equal : (a b : ℕ) → (ltb a b || eqb a b) ≡ leb a b
below_or_equal a b = grind (arith, nat_tests)

above : (a b : ℕ) → not (ltb a b || eqb a b) ≡ ltb b a
above a b = grind (arith, nat_tests)

not_less : (x y : ℤ) → not (int_lt x y) ≡ int_le y x
not_less x y = by_tests (int_lt x y) (int_le y x) refl refl
  where
    by_tests : (s t : Bool) → int_lt x y ≡ s → int_le y x ≡ t → not s ≡ t
    by_tests true true e f = absurd (omega (arith, ints))
    by_tests true false e f = refl
    by_tests false true e f = refl
    by_tests false false e f = absurd (omega (arith, ints))

module _ (h a b : ℕ) (x y : ℤ) (a_small : a < 2 * h) (b_small : b < 2 * h) (x_is : IsReading h a x) (y_is : IsReading h b y) where
  le_by : (s t l : Bool) → eqb a b ≡ s → int_lt x y ≡ t → int_le x y ≡ l → (s || t) ≡ l
  le_by true true true e f g = refl
  le_by true true false e f g = absurd (omega (arith, ints, eqb-true))
  le_by true false true e f g = refl
  le_by true false false e f g = absurd (omega (arith, ints, eqb-true))
  le_by false true true e f g = refl
  le_by false true false e f g = absurd (omega (arith, ints, eqb-true))
  le_by false false true e f g = absurd (omega (arith, ints, eqb-false))
  le_by false false false e f g = refl

le_at : (size : Size) (a b : ℕ) → a < 2 ^ bits_of size → b < 2 ^ bits_of size
    → (eqb a b || int_lt (signed (bits_of size) a) (signed (bits_of size) b)) ≡ int_le (signed (bits_of size) a) (signed (bits_of size) b)
le_at Long a b p q = le_by 2147483648 a b _ _ p q (reading_is 2147483648 a) (reading_is 2147483648 b) _ _ _ refl refl refl
le_at Quad a b p q = le_by 9223372036854775808 a b _ _ p q (reading_is 9223372036854775808 a) (reading_is 9223372036854775808 b) _ _ _ refl refl refl

pub holds_is : (condition : Condition) (size : Size) (a b : ℕ) → a < 2 ^ bits_of size → b < 2 ^ bits_of size
    → holds condition (alu_flags Cmp (bits_of size) a b) ≡ Some (compares condition (bits_of size) a b)
holds_is Below size a b p q = refl
holds_is AboveOrEqual size a b p q = ap Some (not_below a b)
holds_is Equal size a b p q = ap Some (zero_at size a b p q)
holds_is NotEqual size a b p q = ap (λ t. Some (not t)) (zero_at size a b p q)
holds_is BelowOrEqual size a b p q = ap (λ t. Some (ltb a b || t)) (zero_at size a b p q) ∙ ap Some (below_or_equal a b)
holds_is Above size a b p q = ap (λ t. Some (not (ltb a b || t))) (zero_at size a b p q) ∙ ap Some (above a b)
holds_is Less size a b p q = ap Some (less_at size a b p q)
holds_is GreaterOrEqual size a b p q = ap (λ t. Some (not t)) (less_at size a b p q) ∙ ap Some (not_less (signed (bits_of size) a) (signed (bits_of size) b))
holds_is LessOrEqual size a b p q =
    ap₂ (λ s t. Some (s || t)) (zero_at size a b p q) (less_at size a b p q) ∙ ap Some (le_at size a b p q)
holds_is Greater size a b p q =
    ap₂ (λ s t. Some (not (s || t))) (zero_at size a b p q) (less_at size a b p q) ∙ ap (λ t. Some (not t)) (le_at size a b p q) ∙ ap Some (not_le (signed (bits_of size) a) (signed (bits_of size) b))
  where
    not_le : (x y : ℤ) → not (int_le x y) ≡ int_lt y x
    not_le x y = by_tests (int_le x y) (int_lt y x) refl refl
      where
        by_tests : (s t : Bool) → int_le x y ≡ s → int_lt y x ≡ t → not s ≡ t
        by_tests true true e f = absurd (omega (arith, ints))
        by_tests true false e f = refl
        by_tests false true e f = refl
        by_tests false false e f = absurd (omega (arith, ints))
