-- Parts of types (WebAssembly 1.0, sections 5.3.4 and 5.4.1).
use Rattle.std.specs.Prelude.{◌≡◌, ℕ, Option, Some, None, pos}
use Rattle.bl_leb.specs.Numbers.{IsSigned}
use Rattle.bl_leb.specs.Grammar.{Spellings, nothing, given}
use Rattle.bl_wasm.specs.Values.{u32}

-- the maximum behind the minimum, by the first byte of the limits
abbrev pub maximum : ℕ → Option ℕ → Spellings
maximum form None = given (form ≡ 0x00) nothing
maximum form (Some max) = given (form ≡ 0x01) (u32 max)

-- the index of a block's type: a signed number of 33 bits that isn't negative
abbrev pub type_index : ℕ → Spellings
type_index index bytes = IsSigned 33 bytes (pos index)
