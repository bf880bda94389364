-- What a number's text is.
use Rattle.std.proofs.Common.{◌≡◌, ◌&&◌, ◌^◌, refl, Bool, true, false, Float, ℤ, Some, None, nat_lt}
use Rattle.std.specs.Prelude.{if◌then◌else◌, option_and_then, nat_le}
use Rattle.std.specs.Float.{binary64, float_is_finite}
use Rattle.fast_float.specs.Text.{Parts, digits_of, nearest, with_sign}
use Rattle.serde_json.specs.Data.{float, negative}
use Rattle.serde_json.specs.Find.{as_u64}
use Rattle.serde_json.specs.Read.{float_of, is_integer, number_from}

not_whole : (b : Bool) (x : Float) → option_and_then as_u64 (if b then Some (float x) else None) ≡ None
not_whole true x = refl
not_whole false x = refl

-- a float is no whole number
pub float_is_none : (sign : Bool) (p : Parts) → option_and_then as_u64 (float_of sign p) ≡ None
float_is_none sign p = not_whole (float_is_finite (nearest binary64 sign p)) (nearest binary64 sign p)

below_zero : (b : Bool) (z : ℤ) (p : Parts) → option_and_then as_u64 (if b then Some (negative z) else float_of true p) ≡ None
below_zero true z p = refl
below_zero false z p = float_is_none true p

-- nor is what has a minus
pub minus_is_none : (p : Parts) → option_and_then as_u64 (number_from true p) ≡ None
minus_is_none p = below_zero (is_integer p && nat_lt 0 (digits_of p) && nat_le (digits_of p) (2 ^ 63)) (with_sign true (digits_of p)) p
