-- Why a module isn't valid.
use Rattle.std.specs.Prelude.{◌≡◌, ℕ, ◌+◌, ◌<◌, length}
use Rattle.bl_wasm.specs.Validity.{HasTyping, IsValid, imported, function_of}
use Rattle.bl_wasm.specs.declared.module.Module.{Module}
use Rattle.bl_validate.specs.declared.verdict.Invalid.{Invalid}
use Rattle.bl_validate.specs.declared.verdict.Invalid.TheVariants as invalid

-- the number of the first of the functions that the module defines which has no typing
pub record IsLeast (tree : Module) (number : ℕ) : Type 0 where
  pub within : number < length tree.functions
  pub untyped : HasTyping tree number → ⊥
  pub least : (other : ℕ) → other < number → HasTyping tree other

-- that function by its index, imports first; else every function has a typing and another rule is broken; or nothing is said
abbrev pub IsReason : Module → Invalid → Type 0
IsReason tree (invalid.Function index) = (number : ℕ) × (index ≡ length (imported function_of tree) + number) × IsLeast tree number
IsReason tree invalid.Module = ((number : ℕ) → number < length tree.functions → HasTyping tree number) × (IsValid tree → ⊥)
IsReason tree invalid.Memory = Unit {0}
