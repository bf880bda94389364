-- Quotients and remainders by guarded operands: a divisor of 0 divides 0 by 1, and one of -1 divides the negated dividend by 1.
use Rattle.std.proofs.Common.{◌≡◌, ◌≢◌, ℕ, zero, suc, ◌+◌, ◌-◌, ◌*◌, ◌/◌, ◌%◌, ◌^◌, ◌<◌, ◌≤◌, ◌⊎◌, inl, inr, Bool, true, false, not, ◌&&◌, cond, eqb, ltb, ℤ, pos, negsuc, neg_ℤ, ◌-ℤ◌, ◌*ℤ◌, refl, sym, ap, ap₂, ◌∙◌, subst, arith, mod-eq_of_lt, mod-lt, eq-eqb, ◌≤ℤ◌, ◌<ℤ◌}
use Rattle.std.specs.Prelude.{int_div, int_rem, int_lt, int_le}
use Rattle.std.proofs.Math.Nat.{div-one, mod_self, mod-one, div-le_self, div-mul-le_self, mul-le-mul_left}
use Rattle.std.proofs.lemmas.Bool.{cases_lt, ltb-true, ltb-false, eqb-true, eqb-false}
use Rattle.std.proofs.lemmas.Bool.Decides.{nat_tests}
use Rattle.std.proofs.lemmas.Int.{ints}
use Rattle.bl_ops.specs.Integer.{signed, idiv_u, irem_u}
use Rattle.bl_ops.proofs.Signed.{rem_by_quotient}

-- ---- the guards, at n bits

abbrev pub minus_test : ℕ → ℕ → Bool
minus_test n b = eqb ((b + 1) % 2 ^ n) 0

abbrev pub minus_dividend : ℕ → ℕ → ℕ → ℕ
minus_dividend n a b = cond (minus_test n b) ((0 + 2 ^ n - a) % 2 ^ n) a

abbrev pub minus_divisor : ℕ → ℕ → ℕ
minus_divisor n b = cond (minus_test n b) 1 b

abbrev pub zero_dividend : ℕ → ℕ → ℕ
zero_dividend a b = cond (eqb b 0) 0 a

abbrev pub zero_divisor : ℕ → ℕ
zero_divisor b = cond (eqb b 0) 1 b

-- ---- without sign

pub unsigned_quotient : (n a b : ℕ) → zero_dividend a b / zero_divisor b ≡ idiv_u n a b
unsigned_quotient n a b = by_test (eqb b 0)
  where
    by_test : (t : Bool) → cond t 0 a / cond t 1 b ≡ cond t 0 (a / b)
    by_test true = refl
    by_test false = refl

pub unsigned_remainder : (n a b : ℕ) → zero_dividend a b % zero_divisor b ≡ irem_u n a b
unsigned_remainder n a b = by_test (eqb b 0) refl
  where
    by_test : (t : Bool) → eqb b 0 ≡ t → cond t 0 a % cond t 1 b ≡ cond t 0 (a - b * (a / b))
    by_test true e = refl
    by_test false e = let some : b ≢ 0 = eqb-false b 0 e in omega arith

-- ---- signed readings, where half of the numbers are below h

abbrev pub reading : ℕ → ℕ → ℤ
reading h a = cond (ltb a h) (pos a) (pos a -ℤ pos (2 * h))

abbrev pub back : ℕ → ℤ → ℕ
back h (pos i) = i
back h (negsuc i) = 2 * h - (i + 1)

quot_one : (x : ℤ) → int_div x (pos 1) ≡ x
quot_one (pos a) = ap pos (div-one a)
quot_one (negsuc a) = ap (λ k. neg_ℤ (pos k)) (div-one (suc a))

rem_one : (x : ℤ) → int_rem x (pos 1) ≡ pos 0
rem_one (pos a) = ap pos (mod-one a)
rem_one (negsuc a) = ap (λ k. neg_ℤ (pos k)) (mod-one (suc a))

rem_minus : (x : ℤ) → int_rem x (negsuc 0) ≡ pos 0
rem_minus (pos a) = ap pos (mod-one a)
rem_minus (negsuc a) = ap (λ k. neg_ℤ (pos k)) (mod-one (suc a))

module _ (h : ℕ) (some : 0 < h) where
  low_reading : (a : ℕ) → a < h → reading h a ≡ pos a
  low_reading a lt = let test : ltb a h ≡ true = grind (arith, nat_tests) in rw test refl

  high_reading : (a : ℕ) → h ≤ a → a < 2 * h → reading h a ≡ negsuc (2 * h - suc a)
  high_reading a le lt = let test : ltb a h ≡ false = grind (arith, nat_tests) in rw test (omega (arith, ints))

  back_reading : (a : ℕ) → a < 2 * h → back h (reading h a) ≡ a
  back_reading a lt = by_order (cases_lt a h)
    where
      by_order : (a < h) ⊎ (h ≤ a) → back h (reading h a) ≡ a
      by_order (inl low) = ap (back h) (low_reading a low)
      by_order (inr high) = ap (back h) (high_reading a high lt) ∙ omega arith

  -- by -1: the number negated
  negated : (a : ℕ) → a < 2 * h → back h (int_div (reading h a) (negsuc 0)) ≡ (0 + 2 * h - a) % (2 * h)
  negated a lt = by_order (cases_lt a h)
    where
      neg_low : (k : ℕ) → k < h → back h (neg_ℤ (pos k)) ≡ (0 + 2 * h - k) % (2 * h)
      neg_low zero p = sym (ap (λ (x : ℕ). x % (2 * h)) (omega arith) ∙ mod_self (2 * h))
      neg_low (suc k) p = omega arith ∙ sym (mod-eq_of_lt (omega arith))

      by_order : (a < h) ⊎ (h ≤ a) → back h (int_div (reading h a) (negsuc 0)) ≡ (0 + 2 * h - a) % (2 * h)
      by_order (inl low) = ap (λ x. back h (int_div x (negsuc 0))) (low_reading a low) ∙ ap (λ k. back h (neg_ℤ (pos k))) (div-one a) ∙ neg_low a low
      by_order (inr high) =
          ap (λ x. back h (int_div x (negsuc 0))) (high_reading a high lt) ∙ div-one (suc (2 * h - suc a)) ∙ omega arith ∙ sym (mod-eq_of_lt (omega arith))

-- ---- a quotient by neither 0 nor -1 is a signed number

-- a signed number
abbrev pub InHalf : ℕ → ℤ → Type 0
InHalf h (pos k) = k < h
InHalf h (negsuc k) = k < h

module _ (h : ℕ) (some : 1 < h) where
  pub reading_half : (a : ℕ) → a < 2 * h → InHalf h (reading h a)
  reading_half a lt = by_order (cases_lt a h)
    where
      by_order : (a < h) ⊎ (h ≤ a) → InHalf h (reading h a)
      by_order (inl low) = subst (InHalf h) (sym (low_reading h (omega arith) a low)) low
      by_order (inr high) = subst (InHalf h) (sym (high_reading h (omega arith) a high lt)) (omega arith)

  in_range : (q : ℤ) → (pos 0 -ℤ pos h) ≤ℤ q → q <ℤ pos h → not (int_le (pos 0 -ℤ pos h) q && int_lt q (pos h)) ≡ false
  in_range q le lt = by_tests (int_le (pos 0 -ℤ pos h) q) (int_lt q (pos h)) refl refl
    where
      by_tests : (s t : Bool) → int_le (pos 0 -ℤ pos h) q ≡ s → int_lt q (pos h) ≡ t → not (s && t) ≡ false
      by_tests true true e f = refl
      by_tests true false e f = absurd (omega (arith, ints))
      by_tests false t e f = absurd (omega (arith, ints))

  minus_range : (k : ℕ) → k ≤ h → not (int_le (pos 0 -ℤ pos h) (neg_ℤ (pos k)) && int_lt (neg_ℤ (pos k)) (pos h)) ≡ false
  minus_range zero le = in_range (pos 0) (omega (arith, ints)) (omega (arith, ints))
  minus_range (suc k) le = in_range (negsuc k) (omega (arith, ints)) (omega (arith, ints))

  plus_range : (k : ℕ) → k < h → not (int_le (pos 0 -ℤ pos h) (pos k) && int_lt (pos k) (pos h)) ≡ false
  plus_range k lt = in_range (pos k) (omega (arith, ints)) (omega (arith, ints))

  pub quotient_fits : (x y : ℤ) → InHalf h x → y ≢ negsuc 0 → not (int_le (pos 0 -ℤ pos h) (int_div x y) && int_lt (int_div x y) (pos h)) ≡ false
  quotient_fits (pos a) (pos b) p ne = plus_range (a / b) (omega (arith, div-le_self a b))
  quotient_fits (pos a) (negsuc b) p ne = minus_range (a / suc b) (omega (arith, div-le_self a (suc b)))
  quotient_fits (negsuc a) (pos b) p ne = minus_range (suc a / b) (omega (arith, div-le_self (suc a) b))
  quotient_fits (negsuc a) (negsuc zero) p ne = absurd (ne refl)
  quotient_fits (negsuc a) (negsuc (suc b)) p ne =
      let q = suc a / suc (suc b) in
      let two : q * 2 ≤ q * suc (suc b) = mul-le-mul_left q (omega arith) in
      plus_range q (omega (arith, two, div-mul-le_self (suc a) (suc (suc b))))

  -- ---- by guarded operands

  abbrev pub over : ℕ → Bool
  over b = eqb ((b + 1) % (2 * h)) 0

  abbrev pub dividend : Bool → ℕ → ℕ
  dividend t a = cond t ((0 + 2 * h - a) % (2 * h)) a

  abbrev pub divisor : Bool → ℕ → ℕ
  divisor t b = cond t 1 b

  one_reading : reading h 1 ≡ pos 1
  one_reading = low_reading h (omega arith) 1 some

  zero_reading : reading h 0 ≡ pos 0
  zero_reading = low_reading h (omega arith) 0 (omega arith)

  minus_reading : (b : ℕ) → b < 2 * h → over b ≡ true → reading h b ≡ negsuc 0
  minus_reading b lt e =
      let top : (b + 1) % (2 * h) ≡ 0 = eqb-true ((b + 1) % (2 * h)) 0 e in
      let is : b ≡ 2 * h - 1 = by_order b lt top (cases_lt (b + 1) (2 * h)) in
      high_reading h (omega arith) b (omega arith) lt ∙ ap negsuc (omega arith)
    where
      by_order : (b : ℕ) → b < 2 * h → (b + 1) % (2 * h) ≡ 0 → (b + 1 < 2 * h) ⊎ (2 * h ≤ b + 1) → b ≡ 2 * h - 1
      by_order b lt top (inl low) = absurd (omega (arith, mod-eq_of_lt low))
      by_order b lt top (inr high) = omega arith

  not_minus : (b : ℕ) → b < 2 * h → over b ≡ false → reading h b ≢ negsuc 0
  not_minus b lt e same = by_order (cases_lt b h)
    where
      same_number : pos b -ℤ pos (2 * h) ≡ negsuc 0 → (b + 1) % (2 * h) ≡ 0
      same_number is = ap (λ (x : ℕ). x % (2 * h)) (omega (arith, ints)) ∙ mod_self (2 * h)

      by_order : (b < h) ⊎ (h ≤ b) → ⊥
      by_order (inl low) = absurd (omega (arith, ints, low_reading h (omega arith) b low))
      by_order (inr high) =
          let test : ltb b h ≡ false = grind (arith, nat_tests) in
          let is : pos b -ℤ pos (2 * h) ≡ negsuc 0 = rw test at same in
          eqb-false ((b + 1) % (2 * h)) 0 e (same_number is)

  not_zero : (b : ℕ) → over b ≡ true → b ≢ 0
  not_zero b e is = absurd (omega (arith, mod-eq_of_lt {n = b + 1} {m = 2 * h} (omega arith), eqb-true ((b + 1) % (2 * h)) 0 e))

  -- the reading of a guarded divisor isn't -1, and the divisor isn't 0
  pub divisor_fine : (b : ℕ) → b < 2 * h → (s t : Bool) → over b ≡ s → eqb (divisor s b) 0 ≡ t → (reading h (cond t 1 (divisor s b)) ≢ negsuc 0) × (cond t 1 (divisor s b) ≢ 0)
  divisor_fine b lt true true e f = absurd (omega (arith, eqb-true 1 0 f))
  divisor_fine b lt true false e f = ((λ x. absurd (omega (arith, ints, one_reading))), (λ x. absurd (omega arith)))
  divisor_fine b lt false true e f = ((λ x. absurd (omega (arith, ints, one_reading))), (λ x. absurd (omega arith)))
  divisor_fine b lt false false e f = (not_minus b lt e, eqb-false b 0 f)

  pub quotient_by : (a b : ℕ) → a < 2 * h → b < 2 * h → (s t : Bool) → over b ≡ s → eqb (divisor s b) 0 ≡ t
      → back h (int_div (reading h (cond t 0 (dividend s a))) (reading h (cond t 1 (divisor s b)))) ≡ cond (eqb b 0) 0 (back h (int_div (reading h a) (reading h b)))
  quotient_by a b p q true true e f = absurd (omega (arith, eqb-true 1 0 f))
  quotient_by a b p q true false e f =
      let some_b : eqb b 0 ≡ false = grind (arith, nat_tests, not_zero b e) in
      rw some_b (ap (λ y. back h (int_div (reading h ((0 + 2 * h - a) % (2 * h))) y)) one_reading
      ∙ ap (back h) (quot_one (reading h ((0 + 2 * h - a) % (2 * h))))
      ∙ back_reading h (omega arith) ((0 + 2 * h - a) % (2 * h)) (mod-lt (0 + 2 * h - a) (omega arith))
      ∙ sym (ap (λ y. back h (int_div (reading h a) y)) (minus_reading b q e) ∙ negated h (omega arith) a p))
  quotient_by a b p q false true e f =
      rw f (ap₂ (λ x y. back h (int_div x y)) zero_reading one_reading)
  quotient_by a b p q false false e f = rw f refl

  rest_of : (x y : ℤ) → back h (x -ℤ y *ℤ int_div x y) ≡ back h (int_rem x y)
  rest_of x y = ap (back h) (rem_by_quotient x y)

  pub remainder_by : (a b : ℕ) → a < 2 * h → b < 2 * h → (s t : Bool) → over b ≡ s → eqb (divisor s b) 0 ≡ t
      → back h (int_rem (reading h (cond t 0 (dividend s a))) (reading h (cond t 1 (divisor s b)))) ≡ cond (eqb b 0) 0 (back h (int_rem (reading h a) (reading h b)))
  remainder_by a b p q true true e f = absurd (omega (arith, eqb-true 1 0 f))
  remainder_by a b p q true false e f =
      let some_b : eqb b 0 ≡ false = grind (arith, nat_tests, not_zero b e) in
      rw some_b (ap (λ y. back h (int_rem (reading h ((0 + 2 * h - a) % (2 * h))) y)) one_reading
      ∙ ap (back h) (rem_one (reading h ((0 + 2 * h - a) % (2 * h))))
      ∙ sym (ap (λ y. back h (int_rem (reading h a) y)) (minus_reading b q e) ∙ ap (back h) (rem_minus (reading h a))))
  remainder_by a b p q false true e f =
      rw f (ap₂ (λ x y. back h (int_rem x y)) zero_reading one_reading ∙ mod-one 0)
  remainder_by a b p q false false e f = rw f refl
