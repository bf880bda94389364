-- Digits have no space among them, so a last word of digits is all of a line's rest.
use Rattle.std.proofs.Common.{◌≡◌, ℕ, ◌+◌, ◌*◌, ◌^◌, ◌<◌, Bool, false, cond, not, ◌==◌, nat_lt, ◌&&◌, List, [], ◌∷◌, length, Option, Some, None, suc, refl, sym, ap, subst, ◌∙◌, arith, ⊎_elim}
use Rattle.std.proofs.lemmas.Bool.{cond-false, and_left, and_right, and_cases, cases_lt, cases_Bool, eqb-true}
use Rattle.std.proofs.lemmas.List.Splits.{slice_split_first, length-slice_split}
use Rattle.std.specs.List.{position_or_len, before_first, after_first, list_all}
use Rattle.std.specs.Char.{digit_value, is_digit}
use Rattle.bl_base.specs.declared.names.ValueType.{ValueType}
use Rattle.bl_text.specs.Digits.{decimal_below}
use Rattle.bl_text.proofs.LineSplits.{one_part}
use Rattle.bl_trace.specs.Digits.{byte_of, byte_and, bytes_of_hex}
use Rattle.bl_trace.specs.Lines.{words_of, limit_of, argument_of, patch_by, patch_of}

-- a list with a space isn't one of digits alone
with_space : (radix : ℕ) → is_digit 32 radix ≡ false → (xs : List ℕ) →
    position_or_len (λ b. b == 32) xs < length xs → list_all (λ b. is_digit b radix) xs ≡ false
with_space radix none [] inside = absurd (omega (arith, inside))
with_space radix none (x ∷ xs) inside =
    ⊎_elim
    (λ e. let is : x ≡ 32 = eqb-true x 32 e in
    and_left _ _ (subst (λ (b : ℕ). is_digit b radix ≡ false) (sym is) none))
    (λ e. let here : cond (not false) (1 + position_or_len (λ b. b == 32) xs) 0 < suc (length xs) =
    subst (λ (b : Bool). cond (not b) (1 + position_or_len (λ b. b == 32) xs) 0 < suc (length xs)) e inside in
    and_right _ _ (with_space radix none xs (omega arith)))
    (cases_Bool (x == 32))

-- two digits of which one isn't hexadecimal
no_byte : (high low : ℕ) → (is_digit high 16 && is_digit low 16) ≡ false → byte_of high low ≡ None
no_byte high low e = cond-false (is_digit high 16 && is_digit low 16) (Some (16 * digit_value high + digit_value low)) None e

-- without the bytes behind it there is none
and_none : (byte : Option ℕ) → byte_and byte None ≡ None
and_none (Some byte) = refl
and_none None = refl

-- hexadecimal digits alone write bytes
no_bytes : (xs : List ℕ) → list_all (λ b. is_digit b 16) xs ≡ false → bytes_of_hex xs ≡ None
no_bytes [] some = cc
no_bytes (digit ∷ []) some = refl
no_bytes (high ∷ low ∷ rest) some =
    let first = is_digit high 16 in
    let second = is_digit low 16 in
    let others = list_all (λ b. is_digit b 16) rest in
    let skip : byte_of high low ≡ None → bytes_of_hex (high ∷ low ∷ rest) ≡ None = λ e. ap (λ b. byte_and b (bytes_of_hex rest)) e in
    ⊎_elim
    (λ e. skip (no_byte high low (and_left first second e)))
    (λ more. ⊎_elim
    (λ e. skip (no_byte high low (and_right first second e)))
    (λ e. ap (byte_and (byte_of high low)) (no_bytes rest e) ∙ and_none (byte_of high low))
    (and_cases second others more))
    (and_cases first (second && others) some)

-- a function of the only word
abbrev of_one : {A : Type 0} → (List ℕ → Option A) → List (List ℕ) → Option A
of_one f [] = None
of_one f (word ∷ []) = f word
of_one f (word ∷ next ∷ more) = None

-- of two words and more there is none
two_words : {A : Type 0} (f : List ℕ → Option A) (word : List ℕ) (more : List (List ℕ)) → 0 < length more → of_one f (word ∷ more) ≡ None
two_words f word [] some = absurd (omega (arith, some))
two_words f word (next ∷ more) some = refl

-- a function that gives nothing at a space, of the words and of the whole
only_word : {A : Type 0} (f : List ℕ → Option A) →
    ((xs : List ℕ) → position_or_len (λ b. b == 32) xs < length xs → f xs ≡ None) →
    (xs : List ℕ) → of_one f (words_of xs) ≡ f xs
only_word f nothing xs =
    ⊎_elim
    (λ inside. let more = length-slice_split (λ b. b == 32) (after_first (λ b. b == 32) xs) in
    ap (of_one f) (slice_split_first (λ b. b == 32) xs 0 inside)
    ∙ two_words f (before_first (λ b. b == 32) xs) (words_of (after_first (λ b. b == 32) xs)) (omega (arith, more))
    ∙ sym (nothing xs inside))
    (λ past. ap (of_one f) (one_part (λ b. b == 32) xs past))
    (cases_lt (position_or_len (λ b. b == 32) xs) (length xs))

-- a word with a space writes no number
decimal_with_space : (limit : ℕ) (xs : List ℕ) → position_or_len (λ b. b == 32) xs < length xs → decimal_below limit xs ≡ None
decimal_with_space limit xs inside =
    cond-false _ _ _ (and_left _ _ (and_right (nat_lt 0 (length xs)) _ (with_space 10 refl xs inside)))

-- the argument that the rest of a line writes
pub argument_of_rest : (kind : ValueType) (rest : List ℕ) → argument_of (Some kind) (words_of rest) ≡ decimal_below (limit_of kind) rest
argument_of_rest kind rest =
    (elim (words_of rest) as (λ ws. argument_of (Some kind) ws ≡ of_one (decimal_below (limit_of kind)) ws) [
      | [] ↦ refl
      | word ∷ more ↦ (elim more as (λ ws. argument_of (Some kind) (word ∷ ws) ≡ of_one (decimal_below (limit_of kind)) (word ∷ ws)) [ [] ↦ refl | next ∷ others ↦ refl ])
    ])
    ∙ only_word (decimal_below (limit_of kind)) (decimal_with_space (limit_of kind)) rest

-- the patch of words that so begin
patch_of_words : (sizes memory offset : List ℕ) (more : List (List ℕ)) →
    patch_of sizes (memory ∷ offset ∷ more) ≡
    of_one (λ bytes. patch_by sizes (decimal_below (2 ^ 32) memory) (decimal_below (2 ^ 32) offset) (bytes_of_hex bytes)) more
patch_of_words sizes memory offset [] = refl
patch_of_words sizes memory offset (bytes ∷ []) = refl
patch_of_words sizes memory offset (bytes ∷ next ∷ more) = refl

-- without bytes there is no patch
no_patch : (sizes : List ℕ) (memory offset : Option ℕ) → patch_by sizes memory offset None ≡ None
no_patch sizes (Some memory) (Some offset) = refl
no_patch sizes (Some memory) None = refl
no_patch sizes None offset = refl

-- the patch that the rest of a line writes
pub patch_of_rest : (sizes operands memory rest offset bytes : List ℕ) (m o : Option ℕ) (b : Option (List ℕ)) →
    words_of operands ≡ memory ∷ words_of rest → words_of rest ≡ offset ∷ words_of bytes →
    decimal_below (2 ^ 32) memory ≡ m → decimal_below (2 ^ 32) offset ≡ o → bytes_of_hex bytes ≡ b →
    patch_of sizes (words_of operands) ≡ patch_by sizes m o b
patch_of_rest sizes operands memory rest offset bytes m o b first second is_m is_o is_b =
    let by_words = patch_by sizes (decimal_below (2 ^ 32) memory) (decimal_below (2 ^ 32) offset) in
    ap (patch_of sizes) (first ∙ ap (λ ws. memory ∷ ws) second)
    ∙ patch_of_words sizes memory offset (words_of bytes)
    ∙ only_word (λ text. by_words (bytes_of_hex text))
    (λ xs inside. ap by_words (no_bytes xs (with_space 16 refl xs inside))
    ∙ no_patch sizes (decimal_below (2 ^ 32) memory) (decimal_below (2 ^ 32) offset))
    bytes
    ∙ ap by_words is_b
    ∙ ap (λ (n : Option ℕ). patch_by sizes n (decimal_below (2 ^ 32) offset) b) is_m
    ∙ ap (λ (n : Option ℕ). patch_by sizes m n b) is_o
