-- What a reader of all bytes answers.
use Rattle.std.specs.Prelude.{ℕ, List, Result, Ok, Err}
use Rattle.bl_leb.specs.Grammar.{Spellings}
use Rattle.bl_code.specs.declared.error.CodeError.{CodeError}
use Rattle.bl_code.specs.declared.error.CodeError.TheVariants.{Malformed, Memory}

-- a reader of all bytes gives what they spell; or they spell nothing, or there was no memory
abbrev pub ReadsAll : {A : Type 0} → (A → Spellings) → List ℕ → Result A CodeError → Type 0
ReadsAll {A} B bytes (Ok x) = B x bytes
ReadsAll {A} B bytes (Err Malformed) = (x : A) → B x bytes → ⊥
ReadsAll {A} B bytes (Err Memory) = Unit {0}
