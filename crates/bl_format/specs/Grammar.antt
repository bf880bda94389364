-- How the numbers and the lists of an image are spelled.
use Rattle.std.specs.Prelude.{◌≡◌, ℕ, suc, ◌+◌, ◌^◌, ◌<◌, List, [], ◌∷◌, length}
use Rattle.bl_leb.specs.Grammar.{Spellings, ◌⨾◌, nothing, given}
use Rattle.bl_leb.specs.Numbers.{IsUnsigned}
use Rattle.bl_leb.specs.Spellings.{IsShortest}

-- a spelling of each, one after another, where what may stand next depends on what stood before
abbrev pub each_after : {S A : Type 0} → (S → A → S) → (S → A → Spellings) → S → List A → Spellings
each_after next B state [] = nothing
each_after next B state (x ∷ xs) = B state x ⨾ each_after next B (next state x) xs

-- a spelling of each, one after another
abbrev pub each : {A : Type 0} → (A → Spellings) → List A → Spellings
each B = each_after (λ state x. state) (λ state. B) (tt {0})

-- a number below 2^64: unsigned LEB128 in its shortest spelling
abbrev pub u64 : ℕ → Spellings
u64 n bytes = IsShortest (IsUnsigned 64) bytes n

-- a number below 2^32
abbrev pub u32 : ℕ → Spellings
u32 n = given (n < 2 ^ 32) (u64 n)

-- how many, and then each
abbrev pub vec : {A : Type 0} → (A → Spellings) → List A → Spellings
vec B xs = u32 (length xs) ⨾ each B xs

-- a number by how far it is from the least one that may stand here
abbrev pub gap : ℕ → ℕ → Spellings
gap least n bytes = (n < 2 ^ 32) × (far : ℕ) × (n ≡ least + far) × u32 far bytes

-- things whose numbers rise: of each its number minus the former's minus 1 (of the first its number), and then what else is
-- spelled of it
abbrev pub rising : {A : Type 0} → (A → ℕ) → (A → Spellings) → List A → Spellings
rising number B = each_after (λ least x. suc (number x)) (λ least x. gap least (number x) ⨾ B x) 0
