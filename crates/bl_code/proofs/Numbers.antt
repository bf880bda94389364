-- Numbers that a byte spells alone.
use Rattle.std.proofs.Common.{◌≡◌, ℕ, ◌+◌, ◌-◌, ◌^◌, ◌<◌, List, length, get_or, refl, pos, inl}
use Rattle.bl_wasm.specs.Values.{int}
use Rattle.bl_code.specs.ReaderAnswers.{IsAt}
use Rattle.bl_leb.proofs.Places.{spelled_one}

-- a byte below 64 spells the signed number that it is
pub int_one : (width : ℕ) (bytes : List ℕ) (i n : ℕ) → i < length bytes → n ≡ get_or bytes i n → n < 2 ^ 6 → n < 2 ^ (width - 1) → IsAt (int width) bytes i (i + 1) n
int_one width bytes i n inside is small fits = spelled_one (λ these y. int width y these) bytes i n n inside is (pos n, inl (small, fits, refl), refl)
