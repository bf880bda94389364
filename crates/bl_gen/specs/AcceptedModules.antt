-- What makes bytes a module that is decoded and found valid wherever there is memory.
use Rattle.std.specs.Prelude.{◌≡◌, ℕ, List, None, Result, Ok, Err}
use Rattle.bl_wasm.specs.Limits.{first_excess}
use Rattle.bl_wasm.specs.Modules.{Spells}
use Rattle.bl_wasm.specs.Validity.{Typed}
use Rattle.bl_wasm.specs.declared.module.Module.{Module}
use Rattle.bl_decode.specs.Supported.{IsSupported}
use Rattle.bl_decode.specs.declared.error.DecodeError.{DecodeError}
use Rattle.bl_decode.specs.declared.error.DecodeError.TheVariants.{Memory}

-- the bytes spell a module that is supported, exceeds no limit and is valid
pub record IsAccepted (bytes : List ℕ) : Type 0 where
  pub tree : Module
  pub spelled : Spells bytes tree
  pub supported : IsSupported tree
  pub within : first_excess tree ≡ None
  pub valid : Typed tree

-- decoding gives a valid module, but for want of memory
abbrev pub GivesValid : Result Module DecodeError → Type 0
GivesValid (Ok tree) = Typed tree
GivesValid (Err error) = error ≡ Memory
