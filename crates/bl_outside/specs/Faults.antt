-- Counts of faults.
use Rattle.std.specs.Prelude.{◌≡◌, ℕ, ◌+◌, ◌-◌, ◌^◌, ◌<◌, ◌⊎◌, nat_lt, if◌then◌else◌}

-- the number at which a count stays
abbrev pub last_count : ℕ
last_count = 2 ^ 64 - 1

-- a count rose in a call, or stands at its last number when the call ends
abbrev pub Rose : ℕ → ℕ → Type 0
Rose old new = (old < new) ⊎ (new ≡ last_count)

-- one fault more
abbrev pub one_more : ℕ → ℕ
one_more count = (if nat_lt count last_count then count + 1 else count)
