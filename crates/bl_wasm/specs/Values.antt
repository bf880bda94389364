-- How the binary format is read, and its values (WebAssembly 1.0, sections 5.1 and 5.2): each part of a tree has its
-- spellings, and the spelling of a whole is the spellings of its parts, one after another.
use Rattle.std.specs.Prelude.{◌≡◌, ℕ, ◌++◌, List, [], ◌∷◌, length, ℤ}
use Rattle.std.specs.Int.{w32, w64, from_le_bytes}
use Rattle.std.specs.Str.{IsUtf8}
use Rattle.bl_leb.specs.Grammar.{Spellings, ◌⨾◌, nothing, exactly, given}
use Rattle.bl_leb.specs.Numbers.{IsUnsigned, IsSigned}
use Rattle.bl_ops.specs.Integer.{unsigned}

-- B*: a spelling of each, one after another
abbrev pub each : {A : Type 0} → (A → Spellings) → List A → Spellings
each B [] = nothing
each B (x ∷ xs) = B x ⨾ each B xs

-- uN: an unsigned number (section 5.2.2)
abbrev pub u32 : ℕ → Spellings
u32 n bytes = IsUnsigned 32 bytes n

-- iN: a number by the signed one with the same bits (section 5.2.2)
abbrev pub int : ℕ → ℕ → Spellings
int N n bytes = (z : ℤ) × IsSigned N bytes z × (n ≡ unsigned N z)

-- f32: a float by its bits, in 4 bytes, the lowest first (section 5.2.3)
abbrev pub f32 : ℕ → Spellings
f32 bits bytes = (length bytes ≡ 4) × (bits ≡ from_le_bytes w32 bytes)

-- f64: a float by its bits, in 8 bytes, the lowest first (section 5.2.3)
abbrev pub f64 : ℕ → Spellings
f64 bits bytes = (length bytes ≡ 8) × (bits ≡ from_le_bytes w64 bytes)

-- vec(B): how many, and then each (section 5.1.3)
abbrev pub vec : {A : Type 0} → (A → Spellings) → List A → Spellings
vec B xs = u32 (length xs) ⨾ each B xs

-- vec(byte) (section 5.1.3)
abbrev pub byte_vec : List ℕ → Spellings
byte_vec these = u32 (length these) ⨾ exactly these

-- name: a vec(byte) that is the UTF-8 of some characters (section 5.2.4)
abbrev pub name : List ℕ → Spellings
name these = given (IsUtf8 these) (byte_vec these)

-- size:u32 and then exactly so many bytes (sections 5.5.2 and 5.5.13)
pub record sized (Contents : Spellings) (bytes : List ℕ) : Type 0 where
  pub size : List ℕ
  pub contents : List ℕ
  pub whole : bytes ≡ size ++ contents
  pub counted : u32 (length contents) size
  pub spelled : Contents contents
