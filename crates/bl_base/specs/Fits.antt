-- When a start fits a function (WebAssembly 1.0, section 4.5.5, for the arguments).
use Rattle.std.specs.Prelude.{ℕ, ◌+◌, ◌*◌, ◌^◌, ◌<◌, ◌≤◌, List, length, All, Option, Some, None, slice_get}
use Rattle.std.specs.List.{AllZip}
use Rattle.bl_base.specs.declared.names.ValueType.{ValueType}
use Rattle.bl_base.specs.declared.names.ValueType.TheVariants.{I32, I64}
use Rattle.bl_base.specs.declared.start.Patch.{Patch}
use Rattle.bl_base.specs.declared.start.Start.{Start}

-- a value is one of a type: unsigned, below two to its width
abbrev pub ArgumentFits : ValueType → ℕ → Type 0
ArgumentFits I32 value = value < 2 ^ 32
ArgumentFits I64 value = value < 2 ^ 64

-- bytes from a place lie in so many pages of 65,536 bytes; with no such memory they don't
abbrev pub LiesIn : ℕ → ℕ → Option ℕ → Type 0
LiesIn offset count None = ⊥
LiesIn offset count (Some pages) = offset + count ≤ pages * 65536

-- bytes, since a number of a definition has no bound of its own
abbrev pub AreBytes : List ℕ → Type 0
AreBytes bytes = All (λ byte. byte < 2 ^ 8) bytes

-- a patch names a memory and lies in its first pages
abbrev pub PatchFits : List ℕ → Patch → Type 0
PatchFits sizes patch = LiesIn patch.offset (length patch.bytes) (slice_get sizes patch.memory) × AreBytes patch.bytes

-- the start fits a function of these parameters where the memories have these first pages
pub record Fits (params : List ValueType) (sizes : List ℕ) (start : Start) : Type 0 where
  -- one argument for each parameter, each of its type
  pub arguments : AllZip ArgumentFits params start.args
  pub patches : All (PatchFits sizes) start.patches
