-- Bytes as numbers.
use Rattle.std.proofs.Common.{◌≡◌, ℕ, zero, suc, ◌+◌, ◌*◌, ◌/◌, List, [], ◌∷◌, length, take, drop, get_or, refl, ap, arith}
use Rattle.bl_base.specs.Bytes.{number_of, bytes_of}

-- so many bytes of a number
pub length-bytes_of : (width number : ℕ) → length (bytes_of width number) ≡ width
length-bytes_of zero number = refl
length-bytes_of (suc width) number = ap suc (length-bytes_of width (number / 256))

-- one byte, and twice as many each time: the number of the first half and of the second
pub one_is : (from : ℕ) (space : List ℕ) → number_of (take 1 (drop from space)) ≡ get_or space from 0
one_is zero [] = refl
one_is (suc from) [] = refl
one_is zero (a ∷ space) = omega arith
one_is (suc from) (a ∷ space) = one_is from space

pub two_is : (from : ℕ) (space : List ℕ) → number_of (take 2 (drop from space)) ≡ number_of (take 1 (drop from space)) + 256 * number_of (take 1 (drop (from + 1) space))
two_is zero [] = refl
two_is zero (a ∷ []) = omega arith
two_is zero (a ∷ b ∷ space) = omega arith
two_is (suc from) [] = let next : suc from + 1 ≡ suc (from + 1) = omega arith in rw next refl
two_is (suc from) (a ∷ space) = let next : suc from + 1 ≡ suc (from + 1) = omega arith in rw next (two_is from space)

pub four_is : (from : ℕ) (space : List ℕ) → number_of (take 4 (drop from space)) ≡ number_of (take 2 (drop from space)) + 65536 * number_of (take 2 (drop (from + 2) space))
four_is zero [] = refl
four_is zero (a ∷ []) = omega arith
four_is zero (a ∷ b ∷ space) = omega arith
four_is (suc from) [] = let next : suc from + 2 ≡ suc (from + 2) = omega arith in rw next refl
four_is (suc from) (a ∷ space) = let next : suc from + 2 ≡ suc (from + 2) = omega arith in rw next (four_is from space)

pub eight_is : (from : ℕ) (space : List ℕ) → number_of (take 8 (drop from space)) ≡ number_of (take 4 (drop from space)) + 4294967296 * number_of (take 4 (drop (from + 4) space))
eight_is zero [] = refl
eight_is zero (a ∷ []) = omega arith
eight_is zero (a ∷ b ∷ []) = omega arith
eight_is zero (a ∷ b ∷ c ∷ []) = omega arith
eight_is zero (a ∷ b ∷ c ∷ d ∷ space) = omega arith
eight_is (suc from) [] = let next : suc from + 4 ≡ suc (from + 4) = omega arith in rw next refl
eight_is (suc from) (a ∷ space) = let next : suc from + 4 ≡ suc (from + 4) = omega arith in rw next (eight_is from space)
