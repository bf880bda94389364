-- Options as numbers, and which of two is the lesser.
use Rattle.std.specs.Prelude.{◌≡◌, ℕ, zero, suc, Option, Some, None, Bool, true, false, nat_lt, if◌then◌else◌, refl}

-- what a number stands for: 0 for none, and any other for the one before it
abbrev pub decoded : ℕ → Option ℕ
decoded zero = None
decoded (suc k) = Some k

-- the number that stands for an option
abbrev pub encoded : Option ℕ → ℕ
encoded None = 0
encoded (Some k) = suc k

pub coded_back : (code : ℕ) → encoded (decoded code) ≡ code
coded_back zero = refl
coded_back (suc k) = refl

-- whether there is a number, and it is less than another one or there is no other
abbrev pub is_below : Option ℕ → Option ℕ → Bool
is_below None _ = false
is_below (Some a) None = true
is_below (Some a) (Some b) = nat_lt a b

-- the lesser number; the other one where there is but one
abbrev pub least : Option ℕ → Option ℕ → Option ℕ
least one other = if is_below one other then one else other
