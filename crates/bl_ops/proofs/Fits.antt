-- What an operation on n bits gives is below 2 ^ n.
use Rattle.std.proofs.Common.{◌≡◌, ℕ, zero, suc, ◌+◌, ◌-◌, ◌*◌, ◌/◌, ◌%◌, ◌^◌, ◌<◌, ◌≤◌, Bool, true, false, eqb, ltb, cond, ℤ, pos, negsuc, ◌-ℤ◌, ◌*ℤ◌, neg_ℤ, arith, pow_pos, pow_mono, mod-lt, refl, subst}
use Rattle.std.specs.Prelude.{IfSome, int_div, int_rem, unsigned_abs}
use Rattle.bl_base.specs.Fits.{ArgumentFits}
use Rattle.bl_ops.specs.Numerics.{meaning}
use Rattle.bl_ops.specs.Access.{access_type, width_of, extended, narrowed}
use Rattle.bl_ops.specs.declared.access.AccessKind.{AccessKind}
use Rattle.bl_ops.specs.declared.access.AccessKind.TheVariants.{I32Load}
use Rattle.bl_ops.specs.OperatorTable.{row_of}
use Rattle.bl_ops.specs.declared.op.Op.{Op}
use Rattle.bl_ops.specs.declared.op.Op.TheVariants.{Move, Select, Outside}
use Rattle.std.proofs.lemmas.Nat.{and_le_l, or_lt, xor_lt, ones-le, leading_le, trailing_le, pow_below, shr_le, shr_below}
use Rattle.std.proofs.lemmas.Bool.Decides.{nat_tests}
use Rattle.std.proofs.lemmas.Int.{ints}
use Rattle.std.proofs.Math.Nat.{div-le_self, mod-le, pow-suc}
use Rattle.bl_ops.proofs.Bits.{iand_is, ior_is, ixor_is, iclz_is, ictz_is, ipopcnt_is}
use Rattle.bl_ops.proofs.Shifts.{irotl_is, irotr_is}
use Rattle.bl_ops.proofs.Signed.{rem_by_quotient}
use Rattle.bl_ops.specs.Integer.{truth, bit, signed, unsigned, idiv_u, idiv_s, irem_u, irem_s, iand, ior, ixor, ishr_u, ishr_s, irotl, irotr, iclz, ictz, ipopcnt, iextend_s}

-- a number of places is below the power of two
places_below : (n : ℕ) → n < 2 ^ n
places_below zero = omega arith
places_below (suc n) = omega (arith, places_below n, pow-suc 2 n)

pub truth-below : (n : ℕ) (test : Bool) → 0 < n → truth test < 2 ^ n
truth-below n true h = omega (arith, pow_below 0 n h)
truth-below n false h = pow_pos n

pub mod-below : (n x : ℕ) → x % 2 ^ n < 2 ^ n
mod-below n x = mod-lt x (pow_pos n)

pub idiv_u-below : (n a b : ℕ) → a < 2 ^ n → idiv_u n a b < 2 ^ n
idiv_u-below n a b h = by_test (eqb b 0)
  where
    by_test : (t : Bool) → cond t 0 (a / b) < 2 ^ n
    by_test true = pow_pos n
    by_test false = omega (arith, div-le_self a b)

pub irem_u-below : (n a b : ℕ) → a < 2 ^ n → irem_u n a b < 2 ^ n
irem_u-below n a b h = by_test (eqb b 0)
  where
    by_test : (t : Bool) → cond t 0 (a - b * (a / b)) < 2 ^ n
    by_test true = pow_pos n
    by_test false = omega arith

-- ---- by signed readings

size_neg : (q : ℕ) → unsigned_abs (neg_ℤ (pos q)) ≡ q
size_neg zero = omega arith
size_neg (suc q) = omega arith

quotient_size : (x y : ℤ) → unsigned_abs (int_div x y) ≤ unsigned_abs x
quotient_size (pos a) (pos b) = div-le_self a b
quotient_size (pos a) (negsuc b) = omega (arith, size_neg (a / suc b), div-le_self a (suc b))
quotient_size (negsuc a) (pos b) = omega (arith, size_neg (suc a / b), div-le_self (suc a) b)
quotient_size (negsuc a) (negsuc b) = div-le_self (suc a) (suc b)

remainder_size : (x y : ℤ) → unsigned_abs (int_rem x y) ≤ unsigned_abs x
remainder_size (pos a) y = mod-le a (unsigned_abs y)
remainder_size (negsuc a) y = omega (arith, size_neg (suc a % unsigned_abs y), mod-le (suc a) (unsigned_abs y))

signed_size : (m a : ℕ) → 0 < m → a < 2 ^ m → unsigned_abs (signed m a) < 2 ^ m
signed_size m a h p = by_sign (ltb a (2 ^ (m - 1))) refl
  where
    negative : pos a -ℤ pos (2 ^ m) ≡ negsuc (2 ^ m - suc a)
    negative = omega (arith, ints)

    by_sign : (t : Bool) → ltb a (2 ^ (m - 1)) ≡ t → unsigned_abs (cond t (pos a) (pos a -ℤ pos (2 ^ m))) < 2 ^ m
    by_sign true e = p
    by_sign false e =
        let some : 0 < a = grind (arith, nat_tests, e, pow_pos (m - 1)) in
        rw negative (omega arith)

unsigned-below : (n : ℕ) (z : ℤ) → unsigned_abs z < 2 ^ n → unsigned n z < 2 ^ n
unsigned-below n (pos i) h = h
unsigned-below n (negsuc i) h = omega arith

pub idiv_s-below : (n a b : ℕ) → 0 < n → a < 2 ^ n → idiv_s n a b < 2 ^ n
idiv_s-below n a b some h = by_test (eqb b 0)
  where
    by_test : (t : Bool) → cond t 0 (unsigned n (int_div (signed n a) (signed n b))) < 2 ^ n
    by_test true = pow_pos n
    by_test false = unsigned-below n (int_div (signed n a) (signed n b)) (omega (arith, signed_size n a some h, quotient_size (signed n a) (signed n b)))

pub irem_s-below : (n a b : ℕ) → 0 < n → a < 2 ^ n → irem_s n a b < 2 ^ n
irem_s-below n a b some h = by_test (eqb b 0)
  where
    by_test : (t : Bool) → cond t 0 (unsigned n (signed n a -ℤ signed n b *ℤ int_div (signed n a) (signed n b))) < 2 ^ n
    by_test true = pow_pos n
    by_test false = rw (rem_by_quotient (signed n a) (signed n b)) (unsigned-below n (int_rem (signed n a) (signed n b)) (omega (arith, signed_size n a some h, remainder_size (signed n a) (signed n b))))

pub iextend_s-below : (m n a : ℕ) → 0 < m → m ≤ n → a < 2 ^ m → iextend_s m n a < 2 ^ n
iextend_s-below m n a some wide h = unsigned-below n (signed m a) (omega (arith, signed_size m a some h, pow_mono {i = m} {j = n} wide))

-- ---- by bits

pub iand-below : (n a b : ℕ) → a < 2 ^ n → b < 2 ^ n → iand n a b < 2 ^ n
iand-below n a b p q = omega (arith, iand_is n a b p q, and_le_l a b)

pub ior-below : (n a b : ℕ) → a < 2 ^ n → b < 2 ^ n → ior n a b < 2 ^ n
ior-below n a b p q = omega (arith, ior_is n a b p q, or_lt n a b p q)

pub ixor-below : (n a b : ℕ) → a < 2 ^ n → b < 2 ^ n → ixor n a b < 2 ^ n
ixor-below n a b p q = omega (arith, ixor_is n a b p q, xor_lt n a b p q)

pub ishr_u-below : (n a b : ℕ) → a < 2 ^ n → ishr_u n a b < 2 ^ n
ishr_u-below n a b h = omega (arith, shr_le a (b % n))

pub irotl-below : (n a b : ℕ) → 0 < n → a < 2 ^ n → irotl n a b < 2 ^ n
irotl-below n a b some h = omega (arith, irotl_is n a b some h, or_lt n ((a * 2 ^ (b % n)) % 2 ^ n) (a / 2 ^ ((n - b % n) % n)) (mod-below n (a * 2 ^ (b % n))) (omega (arith, shr_le a ((n - b % n) % n))))

pub irotr-below : (n a b : ℕ) → 0 < n → a < 2 ^ n → irotr n a b < 2 ^ n
irotr-below n a b some h = omega (arith, irotr_is n a b some h, or_lt n (a / 2 ^ (b % n)) ((a * 2 ^ ((n - b % n) % n)) % 2 ^ n) (omega (arith, shr_le a (b % n))) (mod-below n (a * 2 ^ ((n - b % n) % n))))

pub iclz-below : (n a : ℕ) → a < 2 ^ n → iclz n a < 2 ^ n
iclz-below n a h = omega (arith, iclz_is n a h, leading_le n a, places_below n)

pub ictz-below : (n a : ℕ) → ictz n a < 2 ^ n
ictz-below n a = omega (arith, ictz_is n a, trailing_le n a, places_below n)

pub ipopcnt-below : (n a : ℕ) → a < 2 ^ n → ipopcnt n a < 2 ^ n
ipopcnt-below n a h = omega (arith, ipopcnt_is n a h, ones-le n a h, places_below n)

pub ishr_s-below : (n a b : ℕ) → 0 < n → a < 2 ^ n → ishr_s n a b < 2 ^ n
unfolding ishr_s
ishr_s-below n a b some h = by_bit (bit a (n - 1)) (omega arith)
  where
    high : a / 2 ^ (b % n) < 2 ^ (n - b % n)
    high = shr_below a (n - b % n) (b % n) (subst (λ (x : ℕ). a < 2 ^ x) (omega arith) h)

    by_bit : (x : ℕ) → x < 2 → a / 2 ^ (b % n) + x * (2 ^ n - 2 ^ (n - b % n)) < 2 ^ n
    by_bit zero p = omega (arith, shr_le a (b % n))
    by_bit (suc zero) p = omega (arith, high, pow_mono {i = n - b % n} {j = n} (omega arith))
    by_bit (suc (suc x)) p = absurd (omega arith)

-- ---- the operators

pub ruleset bounds = (truth-below, mod-below, idiv_u-below, idiv_s-below, irem_u-below, irem_s-below, iand-below, ior-below, ixor-below, ishr_u-below, ishr_s-below, irotl-below, irotr-below, iclz-below, ictz-below, ipopcnt-below, iextend_s-below)

pub meaning_fits : (op : Op) (a b c : ℕ) → a < 2 ^ 64 → b < 2 ^ 64 → IfSome (row_of op) (λ row. ArgumentFits row.to (meaning op a b c))
unfolding meaning
meaning_fits Move a b c p q = tt
meaning_fits Select a b c p q = tt
meaning_fits Outside a b c p q = tt
meaning_fits op a b c p q = search (arith, bounds)

-- ---- the accesses

pub load_fits : (kind : AccessKind) (number : ℕ) → number < 2 ^ (8 * width_of kind) → ArgumentFits (access_type kind) (extended kind number)
load_fits I32Load number h = h
load_fits kind number h = search (arith, bounds)

pub store_fits : (kind : AccessKind) (number : ℕ) → narrowed kind number < 2 ^ (8 * width_of kind)
store_fits kind number = mod-below (8 * width_of kind) number
