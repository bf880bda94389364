-- What decimal words write: below a limit, or too much.
use Rattle.std.proofs.Common.{◌≡◌, ℕ, ◌+◌, ◌*◌, ◌<◌, ◌≤◌, List, [], ◌∷◌, Option, Some, None, IfSome, ◌&&◌, nat_lt, length, get_or, drop, sym, arith}
use Rattle.std.proofs.lemmas.Bool.{and_parts, and_right, cond_both, cond-false, le-ltb, ltb-true}
use Rattle.std.proofs.lemmas.List.{at_drop_more}
use Rattle.std.specs.Char.{digit_value}
use Rattle.std.specs.Str.Parse.{digits_value, digits_value_after}
use Rattle.bl_text.specs.Digits.{is_decimal, decimal_below}

-- digits behind a number write no less
at_least : (n : ℕ) (digits : List ℕ) → n ≤ digits_value_after 10 n digits
at_least n [] = omega arith
at_least n (digit ∷ digits) = omega (arith, at_least (n * 10 + digit_value digit) digits)

-- digits so far that write more than a greatest number leave none
pub too_much : (word : List ℕ) (i value digit most : ℕ) → i < length word →
    digits_value 10 word ≡ digits_value_after 10 value (drop i word) → digit ≡ digit_value (get_or word i 0) →
    most < 10 * value + digit → None ≡ decimal_below (most + 1) word
too_much word i value digit most inside number is over =
    let next : digits_value_after 10 value (drop i word) ≡ digits_value_after 10 (value * 10 + digit_value (get_or word i 0)) (drop (i + 1) word) =
    at_drop_more (digits_value_after 10 value) word i 0 inside in
    let more = at_least (value * 10 + digit_value (get_or word i 0)) (drop (i + 1) word) in
    let large : most + 1 ≤ digits_value 10 word = omega arith in
    sym (cond-false _ _ _ (and_right (is_decimal word) _ (le-ltb _ _ large)))

-- a number read is below its limit
pub below_limit : (limit : ℕ) (word : List ℕ) → IfSome (decimal_below limit word) (λ value. value < limit)
below_limit limit word =
    cond_both (is_decimal word && nat_lt (digits_value 10 word) limit) (Some (digits_value 10 word)) None
    (λ (o : Option ℕ). IfSome o (λ value. value < limit))
    (λ e. ltb-true _ _ (and_parts (is_decimal word) (nat_lt (digits_value 10 word) limit) e).1)
    (λ e. tt)
