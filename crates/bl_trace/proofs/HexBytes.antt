-- Bytes in hexadecimal digits, byte by byte.
use Rattle.std.proofs.Common.{◌≡◌, ℕ, ◌+◌, ◌<◌, ◌≤◌, List, [], ◌∷◌, ◌++◌, Option, Some, None, length, get_or, drop, refl, sym, ap, ◌∙◌, arith, append_assoc}
use Rattle.std.proofs.lemmas.List.{at_drop_more, drop_all}
use Rattle.std.specs.Option.{option_map}
use Rattle.bl_trace.specs.Digits.{byte_of, byte_and, bytes_of_hex}

-- the bytes of a rest, behind those that came before it
abbrev pub behind : List ℕ → List ℕ → Option (List ℕ)
behind bytes rest = option_map (λ more. bytes ++ more) (bytes_of_hex rest)

-- two digits more
two_more : (word : List ℕ) (i : ℕ) → i + 1 < length word →
    drop i word ≡ get_or word i 0 ∷ get_or word (i + 1) 0 ∷ drop (i + 2) word
two_more word i inside =
    let one = at_drop_more (λ rest. rest) word i 0 (omega arith) in
    let two = at_drop_more (λ rest. get_or word i 0 ∷ rest) word (i + 1) 0 inside in
    let place : i + 1 + 1 ≡ i + 2 = omega arith in
    rw place at (one ∙ two)

-- a byte moves from those of the rest to those before it
regroup : (bytes : List ℕ) (byte : ℕ) (found : Option (List ℕ)) →
    option_map (λ more. bytes ++ more) (option_map (λ more. byte ∷ more) found) ≡ option_map (λ more. (bytes ++ byte ∷ []) ++ more) found
regroup bytes byte (Some more) = ap Some (sym (append_assoc bytes (byte ∷ []) more))
regroup bytes byte None = refl

-- where the next two digits write a byte
pub one_byte : (bytes word : List ℕ) (i byte : ℕ) → i + 1 < length word →
    Some byte ≡ byte_of (get_or word i 0) (get_or word (i + 1) 0) →
    behind bytes (drop i word) ≡ behind (bytes ++ byte ∷ []) (drop (i + 2) word)
one_byte bytes word i byte inside is =
    ap (behind bytes) (two_more word i inside)
    ∙ ap (λ b. option_map (λ more. bytes ++ more) (byte_and b (bytes_of_hex (drop (i + 2) word)))) (sym is)
    ∙ regroup bytes byte (bytes_of_hex (drop (i + 2) word))

-- where one digit is left
pub odd : (bytes word : List ℕ) (i : ℕ) → i < length word → length word ≤ i + 1 → behind bytes (drop i word) ≡ None
odd bytes word i inside last =
    let one = at_drop_more (behind bytes) word i 0 inside in
    one ∙ ap (λ rest. behind bytes (get_or word i 0 ∷ rest)) (drop_all (i + 1) word last)
