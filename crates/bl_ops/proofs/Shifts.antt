-- The machine's rotations and signed shift, by powers of two.
use Rattle.std.proofs.Common.{◌≡◌, ℕ, suc, ◌+◌, ◌-◌, ◌*◌, ◌/◌, ◌%◌, ◌^◌, ◌<◌, ◌≤◌, true, false, ◌⊎◌, inl, inr, ℤ, refl, sym, ap, subst, ap₂, ◌∙◌, arith, bit_or, pow_pos, pow_mono, mod-eq_of_lt, to_z, of_z, pos, negsuc, Bool, ltb, mod-lt, pow-add, add-mul}
use Rattle.std.proofs.Math.Nat.{div-eq_of_lt, mul-one, mul-mod_left, mod_self, div-one, div-le_self, eq-zero-or-pos}
use Rattle.std.specs.Int.Bits.{or_self}
use Rattle.std.proofs.lemmas.Nat.{mod-pow-add, or_shifted, or_comm, shl-shr, shr_below, div-mul-add, div-add-mod'}
use Rattle.std.proofs.lemmas.Int.{of_z-to_z}
use Rattle.std.proofs.lemmas.Bool.Decides.{nat_tests}
use Rattle.std.specs.Int.{Width}
use Rattle.std.proofs.lemmas.Grind.{pow_more}
use mir.Val.{bits, hbits, sel}
use lib.Signed.{shr_z}
use Rattle.bl_ops.specs.Integer.{bit, irotl, irotr, ishr_s}
use Rattle.bl_ops.proofs.Signed.{half_of}

-- ---- shifts and rotations

-- of j + k places, what is shifted to the left by k of them
shifted : (j k a : ℕ) → (a * 2 ^ k) % 2 ^ (j + k) ≡ (a % 2 ^ j) * 2 ^ k
shifted j k a =
    mod-pow-add (a * 2 ^ k) j k ∙ omega (arith, ap (λ (x : ℕ). (x % 2 ^ j) * 2 ^ k) (shl-shr a k), mul-mod_left a (2 ^ k))

joined : (j k a : ℕ) → a < 2 ^ (j + k) → bit_or ((a * 2 ^ k) % 2 ^ (j + k)) (a / 2 ^ j) ≡ (a * 2 ^ k) % 2 ^ (j + k) + a / 2 ^ j
joined j k a h =
    let low : a / 2 ^ j < 2 ^ k = shr_below a k j (subst (λ (x : ℕ). a < 2 ^ x) (omega arith) h) in
    rw (shifted j k a) (or_shifted (a % 2 ^ j) k (a / 2 ^ j) low)

-- the places that a rotation by k of n places leaves, as the machine counts them
rest_of : (n k : ℕ) → 0 < k → k < n → (n - k) % n ≡ n - k
rest_of n k p h = mod-eq_of_lt (omega arith)

left_round : (n k a : ℕ) → k < n → a < 2 ^ n → (a * 2 ^ k) % 2 ^ n + a / 2 ^ (n - k) ≡ bit_or ((a * 2 ^ k) % 2 ^ n) (a / 2 ^ ((n - k) % n))
left_round n k a h p = by_places (eq-zero-or-pos k)
  where
    by_places : (k ≡ 0) ⊎ (0 < k) → (a * 2 ^ k) % 2 ^ n + a / 2 ^ (n - k) ≡ bit_or ((a * 2 ^ k) % 2 ^ n) (a / 2 ^ ((n - k) % n))
    by_places (inl e) =
        let all : (a * 2 ^ k) % 2 ^ n ≡ a = ap (λ (x : ℕ). (a * 2 ^ x) % 2 ^ n) e ∙ ap (λ (x : ℕ). x % 2 ^ n) (mul-one a) ∙ mod-eq_of_lt p in
        let whole : n - k ≡ n = omega arith in
        let none : a / 2 ^ (n - k) ≡ 0 = ap (λ (x : ℕ). a / 2 ^ x) whole ∙ div-eq_of_lt p in
        let again : a / 2 ^ ((n - k) % n) ≡ a = ap (λ (x : ℕ). a / 2 ^ (x % n)) whole ∙ ap (λ (x : ℕ). a / 2 ^ x) (mod_self n) ∙ div-one a in
        omega (arith, all, none, ap₂ bit_or all again, or_self a)
    by_places (inr q) =
        let whole : n ≡ (n - k) + k = omega arith in
        let both = joined (n - k) k a (subst (λ (x : ℕ). a < 2 ^ x) whole p) in
        rw (rest_of n k q h) (sym (subst (λ (x : ℕ). bit_or ((a * 2 ^ k) % 2 ^ x) (a / 2 ^ (n - k)) ≡ (a * 2 ^ k) % 2 ^ x + a / 2 ^ (n - k)) (sym whole) both))

right_round : (n k a : ℕ) → k < n → a < 2 ^ n → a / 2 ^ k + (a * 2 ^ (n - k)) % 2 ^ n ≡ bit_or (a / 2 ^ k) ((a * 2 ^ ((n - k) % n)) % 2 ^ n)
right_round n k a h p = by_places (eq-zero-or-pos k)
  where
    by_places : (k ≡ 0) ⊎ (0 < k) → a / 2 ^ k + (a * 2 ^ (n - k)) % 2 ^ n ≡ bit_or (a / 2 ^ k) ((a * 2 ^ ((n - k) % n)) % 2 ^ n)
    by_places (inl e) =
        let all : a / 2 ^ k ≡ a = ap (λ (x : ℕ). a / 2 ^ x) e ∙ div-one a in
        let whole : n - k ≡ n = omega arith in
        let none : (a * 2 ^ (n - k)) % 2 ^ n ≡ 0 = ap (λ (x : ℕ). (a * 2 ^ x) % 2 ^ n) whole ∙ mul-mod_left a (2 ^ n) in
        let again : (a * 2 ^ ((n - k) % n)) % 2 ^ n ≡ a = ap (λ (x : ℕ). (a * 2 ^ (x % n)) % 2 ^ n) whole ∙ ap (λ (x : ℕ). (a * 2 ^ x) % 2 ^ n) (mod_self n) ∙ ap (λ (x : ℕ). x % 2 ^ n) (mul-one a) ∙ mod-eq_of_lt p in
        omega (arith, all, none, ap₂ bit_or all again, or_self a)
    by_places (inr q) =
        let whole : n ≡ k + (n - k) = omega arith in
        let both = or_comm (a / 2 ^ k) ((a * 2 ^ (n - k)) % 2 ^ (k + (n - k))) ∙ joined k (n - k) a (subst (λ (x : ℕ). a < 2 ^ x) whole p) in
        let same = subst (λ (x : ℕ). bit_or (a / 2 ^ k) ((a * 2 ^ (n - k)) % 2 ^ x) ≡ (a * 2 ^ (n - k)) % 2 ^ x + a / 2 ^ k) (sym whole) both in
        rw (rest_of n k q h) (omega (arith, same))

pub irotl_is : (n a b : ℕ) → 0 < n → a < 2 ^ n → irotl n a b ≡ bit_or ((a * 2 ^ (b % n)) % 2 ^ n) (a / 2 ^ ((n - b % n) % n))
unfolding irotl
irotl_is n a b some h = left_round n (b % n) a (omega arith) h

pub irotr_is : (n a b : ℕ) → 0 < n → a < 2 ^ n → irotr n a b ≡ bit_or (a / 2 ^ (b % n)) ((a * 2 ^ ((n - b % n) % n)) % 2 ^ n)
unfolding irotr
irotr_is n a b some h = right_round n (b % n) a (omega arith) h

pub ruleset rotations = (irotl_is, irotr_is)

-- ---- the signed shift

-- of a number whose most significant bit is 1, the complement is shifted
sign_filled : (n k a : ℕ) → k ≤ n → a < 2 ^ n → 2 ^ n - suc ((2 ^ n - suc a) / 2 ^ k) ≡ a / 2 ^ k + (2 ^ n - 2 ^ (n - k))
sign_filled n k a h p =
    let q = a / 2 ^ k in
    let below : q < 2 ^ (n - k) = shr_below a (n - k) k (subst (λ (x : ℕ). a < 2 ^ x) (omega arith) p) in
    let rest : 2 ^ (n - k) ≡ (2 ^ (n - k) - suc q) + (q + 1) = omega arith in
    let whole : 2 ^ n ≡ 2 ^ (n - k) * 2 ^ k = ap (λ (x : ℕ). 2 ^ x) (omega arith) ∙ pow-add 2 (n - k) k in
    let parts : 2 ^ n ≡ (2 ^ (n - k) - suc q) * 2 ^ k + (q * 2 ^ k + 1 * 2 ^ k) = whole ∙ ap (λ (x : ℕ). x * 2 ^ k) rest ∙ add-mul (2 ^ (n - k) - suc q) (q + 1) (2 ^ k) ∙ ap (λ (x : ℕ). (2 ^ (n - k) - suc q) * 2 ^ k + x) (add-mul q 1 (2 ^ k)) in
    let split = div-add-mod' a (2 ^ k) in
    let rem : a % 2 ^ k < 2 ^ k = mod-lt a (pow_pos k) in
    let complement : 2 ^ n - suc a ≡ (2 ^ (n - k) - suc q) * 2 ^ k + (2 ^ k - suc (a % 2 ^ k)) = omega arith in
    let shifted : (2 ^ n - suc a) / 2 ^ k ≡ 2 ^ (n - k) - suc q = ap (λ (x : ℕ). x / 2 ^ k) complement ∙ div-mul-add (2 ^ (n - k) - suc q) (2 ^ k) (2 ^ k - suc (a % 2 ^ k)) (omega arith) in
    let less : 2 ^ (n - k) ≤ 2 ^ n = pow_mono (omega arith) in
    omega arith

high_bit : (n h a : ℕ) → n ≡ h + 1 → a < 2 ^ n → 2 ^ h ≤ a → bit a (n - 1) ≡ 1
high_bit n h a e p q =
    let place : n - 1 ≡ h = omega arith in
    let double : 2 ^ n ≡ 2 ^ h * 2 = ap (λ (x : ℕ). 2 ^ x) e ∙ pow_more 2 h in
    let one : a / 2 ^ h ≡ 1 = ap (λ (x : ℕ). x / 2 ^ h) (omega arith) ∙ div-mul-add 1 (2 ^ h) (a - 1 * 2 ^ h) (omega arith) in
    ap (λ (x : ℕ). a / 2 ^ x % 2) place ∙ ap (λ (x : ℕ). x % 2) one

low_bit : (n h a : ℕ) → n ≡ h + 1 → a < 2 ^ h → bit a (n - 1) ≡ 0
low_bit n h a e p =
    let place : n - 1 ≡ h = omega arith in
    ap (λ (x : ℕ). a / 2 ^ x % 2) place ∙ ap (λ (x : ℕ). x % 2) (div-eq_of_lt p)

shr_s_is : (w : Width) (a b : ℕ) → a < 2 ^ bits w → of_z w (shr_z (to_z w a) (2 ^ (b % bits w))) ≡ ishr_s (bits w) a b
unfolding ishr_s
shr_s_is w a b p = by_sign (ltb a (2 ^ hbits w)) refl
  where
    within : b % bits w ≤ bits w
    within = omega (arith, half_of w)

    by_sign : (t : Bool) → ltb a (2 ^ hbits w) ≡ t → of_z w (shr_z (sel t (pos a) (negsuc (2 ^ bits w - suc a))) (2 ^ (b % bits w))) ≡ a / 2 ^ (b % bits w) + bit a (bits w - 1) * (2 ^ bits w - 2 ^ (bits w - b % bits w))
    by_sign true e = omega (arith, ap (λ (x : ℕ). x * (2 ^ bits w - 2 ^ (bits w - b % bits w))) (low_bit (bits w) (hbits w) a (half_of w) (grind (arith, nat_tests, e))))
    by_sign false e = omega (arith, sign_filled (bits w) (b % bits w) a within p, ap (λ (x : ℕ). x * (2 ^ bits w - 2 ^ (bits w - b % bits w))) (high_bit (bits w) (hbits w) a (half_of w) p (grind (arith, nat_tests, e))))

shr_s_below : (w : Width) (a p : ℕ) → a < 2 ^ bits w → of_z w (shr_z (to_z w a) p) < 2 ^ bits w
shr_s_below w a p h = by_sign (ltb a (2 ^ hbits w))
  where
    by_sign : (t : Bool) → of_z w (shr_z (sel t (pos a) (negsuc (2 ^ bits w - suc a))) p) < 2 ^ bits w
    by_sign true = omega (arith, div-le_self a p)
    by_sign false = omega (arith, pow_pos (bits w))

-- what the machine's shift of a signed number gives
pub shr_s_from : (w : Width) (a b r : ℕ) (z : ℤ) → a < 2 ^ bits w → z ≡ to_z w a → r ≡ of_z w (to_z w (of_z w (shr_z (to_z w (of_z w z)) (2 ^ (b % bits w))))) → r ≡ ishr_s (bits w) a b
shr_s_from w a b r z p reads gives =
    let same : to_z w (of_z w z) ≡ to_z w a = ap (λ (x : ℤ). to_z w (of_z w x)) reads ∙ ap (to_z w) (of_z-to_z w a p) in
    gives
    ∙ ap (λ (x : ℤ). of_z w (to_z w (of_z w (shr_z x (2 ^ (b % bits w)))))) same
    ∙ of_z-to_z w (of_z w (shr_z (to_z w a) (2 ^ (b % bits w)))) (shr_s_below w a (2 ^ (b % bits w)) p)
    ∙ shr_s_is w a b p
