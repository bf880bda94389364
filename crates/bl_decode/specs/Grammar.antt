-- What the grammar says of the code of a function, whatever its bytes are.
use Rattle.std.specs.Prelude.{ℕ, ◌<◌, ◌^◌, sum_by}
use Rattle.bl_wasm.specs.Instructions.{Nests}
use Rattle.bl_wasm.specs.declared.module.Code.{Code}

-- its locals are fewer than 2^32, and its items nest (sections 5.5.13 and 5.4.6)
pub record IsInGrammar (code : Code) : Type 0 where
  pub few : sum_by (λ run. run.count) code.locals < 2 ^ 32
  pub nests : Nests code.items
