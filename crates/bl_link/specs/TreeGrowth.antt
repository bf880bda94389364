-- Trees that grow: what is linked stays, by its number.
use Rattle.std.specs.Prelude.{◌≡◌, ℕ, ◌≤◌, length, slice_get, Some}
use Rattle.bl_wasm.specs.declared.linked.Signature.{Signature}
use Rattle.bl_wasm.specs.declared.linked.Function.{Function}
use Rattle.bl_wasm.specs.declared.linked.Global.{Global}
use Rattle.bl_wasm.specs.declared.linked.Tree.{Tree}

pub record Grows (tree later : Tree) : Type 0 where
  pub types : (i : ℕ) (type : Signature) → slice_get tree.types i ≡ Some type → slice_get later.types i ≡ Some type
  pub functions : (i : ℕ) (function : Function) → slice_get tree.functions i ≡ Some function
      → slice_get later.functions i ≡ Some function
  pub globals : (i : ℕ) (global : Global) → slice_get tree.globals i ≡ Some global → slice_get later.globals i ≡ Some global
  pub tables : length tree.tables ≤ length later.tables
  pub memories : length tree.memories ≤ length later.memories
