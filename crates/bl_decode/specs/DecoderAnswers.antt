-- What decoding answers (WebAssembly 1.0, section 5).
use Rattle.std.specs.Prelude.{◌≡◌, ℕ, List, Some, None, Result, Ok, Err}
use Rattle.bl_wasm.specs.Modules.{Spells}
use Rattle.bl_wasm.specs.declared.module.Module.{Module}
use Rattle.bl_decode.specs.Supported.{IsSupported}
use Rattle.bl_wasm.specs.Limits.{first_excess}
use Rattle.bl_decode.specs.declared.error.DecodeError.{DecodeError}
use Rattle.bl_decode.specs.declared.error.DecodeError.TheVariants.{Malformed, Unsupported, Limit, Memory}

-- the answer for bytes that spell that module
abbrev pub AnswersOf : Module → Result Module DecodeError → Type 0
AnswersOf tree (Ok answer) = (answer ≡ tree) × IsSupported tree × (first_excess tree ≡ None)
AnswersOf tree (Err Malformed) = ⊥
AnswersOf tree (Err Unsupported) = IsSupported tree → ⊥
AnswersOf tree (Err (Limit which value)) = IsSupported tree × (first_excess tree ≡ Some (which, value))
AnswersOf tree (Err Memory) = Unit {0}

-- when each answer comes
abbrev pub Answers : List ℕ → Result Module DecodeError → Type 0
Answers bytes (Ok tree) = Spells bytes tree × IsSupported tree × (first_excess tree ≡ None)
Answers bytes (Err Malformed) = (tree : Module) → Spells bytes tree → ⊥
Answers bytes (Err Unsupported) = (tree : Module) × Spells bytes tree × (IsSupported tree → ⊥)
Answers bytes (Err (Limit which value)) = (tree : Module) × Spells bytes tree × IsSupported tree × (first_excess tree ≡ Some (which, value))
Answers bytes (Err Memory) = Unit {0}
