-- The machine's signed numbers and their remainder, by readings in two's complement.
use Rattle.std.proofs.Common.{◌≡◌, ℕ, suc, ◌+◌, ◌-◌, ◌^◌, ◌<◌, cond, eqb, true, false, ℤ, ◌-ℤ◌, ◌*ℤ◌, refl, sym, ap, ap₂, ◌∙◌, arith, w32, w64, SFits, to_z, of_z, pos, negsuc, Bool, ltb}
use Rattle.std.specs.Prelude.{int_div, int_rem}
use Rattle.std.proofs.Math.IntN.{*ℤ_comm}
use Rattle.std.proofs.lemmas.Int.{quot-rem, ints, of_z-to_z, to_z-of_z}
use Rattle.std.proofs.lemmas.Bool.Decides.{nat_tests}
use Rattle.std.specs.Int.{Width, w8, w16, w128}
use mir.Val.{bits, hbits, sel}
use Rattle.bl_ops.specs.Integer.{irem_s, signed, unsigned}

-- ---- readings

pub half_of : (w : Width) → bits w ≡ hbits w + 1
half_of w = elim w as (λ v. bits v ≡ hbits v + 1) [ w8 ↦ refl | w16 ↦ refl | w32 ↦ refl | w64 ↦ refl | w128 ↦ refl ]

signed_is : (w : Width) (a : ℕ) → a < 2 ^ bits w → signed (bits w) a ≡ to_z w a
signed_is w a h = by_sign (ltb a (2 ^ hbits w)) refl
  where
    place : bits w - 1 ≡ hbits w
    place = omega (arith, half_of w)

    by_sign : (t : Bool) → ltb a (2 ^ hbits w) ≡ t → cond (ltb a (2 ^ (bits w - 1))) (pos a) (pos a -ℤ pos (2 ^ bits w)) ≡ sel t (pos a) (negsuc (2 ^ bits w - suc a))
    by_sign true e = rw (place, e) refl
    by_sign false e = rw (place, e) (omega (arith, ints))

unsigned_is : (w : Width) (z : ℤ) → unsigned (bits w) z ≡ of_z w z
unsigned_is w (pos n) = refl
unsigned_is w (negsuc n) = omega arith

-- ---- the remainder is what the quotient leaves

pub rem_by_quotient : (a d : ℤ) → a -ℤ d *ℤ int_div a d ≡ int_rem a d
rem_by_quotient a d = omega (arith, ints, quot-rem a d, *ℤ_comm d (int_div a d))

-- what the machine's remainder of signed numbers gives
pub rem_s_from : (w : Width) (a b r : ℕ) (x y z : ℤ) → a < 2 ^ bits w → b < 2 ^ bits w → 0 < b → SFits w z
    → x ≡ to_z w a → y ≡ to_z w b → z ≡ int_rem (to_z w (of_z w x)) (to_z w (of_z w y)) → r ≡ of_z w (to_z w (of_z w z)) → r ≡ irem_s (bits w) a b
rem_s_from w a b r x y z a_fits b_fits some fits x_reads y_reads divides gives =
    let test : eqb b 0 ≡ false = grind (arith, nat_tests) in
    let x_is : to_z w (of_z w x) ≡ signed (bits w) a = ap (λ (v : ℤ). to_z w (of_z w v)) x_reads ∙ ap (to_z w) (of_z-to_z w a a_fits) ∙ sym (signed_is w a a_fits) in
    let y_is : to_z w (of_z w y) ≡ signed (bits w) b = ap (λ (v : ℤ). to_z w (of_z w v)) y_reads ∙ ap (to_z w) (of_z-to_z w b b_fits) ∙ sym (signed_is w b b_fits) in
    let z_is : z ≡ int_rem (signed (bits w) a) (signed (bits w) b) = divides ∙ ap₂ int_rem x_is y_is in
    let r_is : r ≡ unsigned (bits w) z = gives ∙ ap (of_z w) (to_z-of_z w z fits) ∙ sym (unsigned_is w z) in
    rw test (r_is ∙ ap (unsigned (bits w)) (z_is ∙ sym (rem_by_quotient (signed (bits w) a) (signed (bits w) b))))
