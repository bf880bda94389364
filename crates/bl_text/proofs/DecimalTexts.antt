-- What the decimal digits of a number are, and that they are read back.
use Rattle.std.proofs.Common.{◌≡◌, ◌∙◌, sym, ap, refl, subst, ℕ, zero, suc, ◌+◌, ◌/◌, ◌%◌, ◌^◌, ◌<◌, ◌≤◌, ◌==◌, ◌&&◌, not, Bool, true, false, List, [], ◌∷◌, ◌++◌, length, Some, nat_lt, arith}
use Rattle.std.specs.Fmt.{decimal}
use Rattle.std.specs.Char.{is_digit}
use Rattle.std.specs.List.{list_all}
use Rattle.std.specs.Str.Parse.{digits_value}
use Rattle.std.proofs.lemmas.Bool.{cond-true, lt-ltb}
use Rattle.std.proofs.lemmas.Fmt.{decimal_by_steps, decimal_is_IsNumeral}
use Rattle.std.proofs.lemmas.List.{length-append}
use Rattle.std.proofs.lemmas.List.Folds.{list_all-append}
use Rattle.bl_text.specs.Digits.{decimal_below, is_decimal}

-- neither a line feed nor a blank
abbrev pub is_inner : ℕ → Bool
is_inner byte = not (byte == 10) && not (byte == 32)

pub record AreDigits (n : ℕ) (digits : List ℕ) : Type 0 where
  pub some : 0 < length digits
  pub all : list_all (λ byte. is_digit byte 10) digits ≡ true
  pub inner : list_all is_inner digits ≡ true

last_digit : (n : ℕ) → n < 10 → AreDigits n ((48 + n) ∷ [])
last_digit zero lt = record { some = omega arith; all = refl; inner = refl }
last_digit (suc zero) lt = record { some = omega arith; all = refl; inner = refl }
last_digit (suc (suc zero)) lt = record { some = omega arith; all = refl; inner = refl }
last_digit (suc (suc (suc zero))) lt = record { some = omega arith; all = refl; inner = refl }
last_digit (suc (suc (suc (suc zero)))) lt = record { some = omega arith; all = refl; inner = refl }
last_digit (suc (suc (suc (suc (suc zero))))) lt = record { some = omega arith; all = refl; inner = refl }
last_digit (suc (suc (suc (suc (suc (suc zero)))))) lt = record { some = omega arith; all = refl; inner = refl }
last_digit (suc (suc (suc (suc (suc (suc (suc zero))))))) lt = record { some = omega arith; all = refl; inner = refl }
last_digit (suc (suc (suc (suc (suc (suc (suc (suc zero)))))))) lt = record { some = omega arith; all = refl; inner = refl }
last_digit (suc (suc (suc (suc (suc (suc (suc (suc (suc zero))))))))) lt = record { some = omega arith; all = refl; inner = refl }
last_digit (suc (suc (suc (suc (suc (suc (suc (suc (suc (suc n)))))))))) lt = absurd (omega arith)

pub both_true : (a b : Bool) → a ≡ true → b ≡ true → (a && b) ≡ true
both_true true b x y = y
both_true false b x y = x

more_digits : (n : ℕ) (digits : List ℕ) → 10 ≤ n → AreDigits (n / 10) digits → AreDigits n (digits ++ (48 + n % 10) ∷ [])
more_digits n digits le are =
    let last = last_digit (n % 10) (omega arith) in
    record {
      some = let some = are.some in let count = length-append digits ((48 + n % 10) ∷ []) in omega (arith, some, count);
      all = list_all-append (λ byte. is_digit byte 10) digits ((48 + n % 10) ∷ []) ∙ both_true _ _ are.all last.all;
      inner = list_all-append is_inner digits ((48 + n % 10) ∷ []) ∙ both_true _ _ are.inner last.inner;
    }

pub are_digits : (n : ℕ) → n < 2 ^ 64 → AreDigits n (decimal n)
are_digits = decimal_by_steps AreDigits last_digit more_digits

-- the number is read
pub read_back : (limit n : ℕ) → n < limit → n < 2 ^ 64 → decimal_below limit (decimal n) ≡ Some n
read_back limit n lt small =
    let are = are_digits n small in
    let value : digits_value 10 (decimal n) ≡ n = (decimal_is_IsNumeral n small).1 in
    let numeral : is_decimal (decimal n) ≡ true = both_true _ _ (lt-ltb 0 (length (decimal n)) are.some) are.all in
    let below : nat_lt (digits_value 10 (decimal n)) limit ≡ true = lt-ltb (digits_value 10 (decimal n)) limit (subst (λ m. m < limit) (sym value) lt) in
    cond-true _ _ _ (both_true _ _ numeral below) ∙ ap Some value
