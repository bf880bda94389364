-- Numbers of the tree are of 32 bits.
use Rattle.std.specs.Prelude.{◌≡◌, ℕ, ◌+◌, ◌^◌, ◌<◌, ◌≤◌, ◌++◌, List, length, filter_map}
use Rattle.bl_wasm.specs.Exports.{AreDistinct}
use Rattle.bl_wasm.specs.declared.linked.Tree.{Tree}
use Rattle.bl_wasm.specs.declared.module.Module.{Module}
use Rattle.bl_link.specs.Links.{exported, pair}
use Rattle.bl_link.specs.IndexSpaces.{Part, Spaces, Store}

-- what a module defines gets numbers of 32 bits behind all that is linked
pub record HasNumbers (store : Store) (wasm : Module) : Type 0 where
  pub types : length store.tree.types + length wasm.types < 2 ^ 32
  pub functions : length store.tree.functions + length wasm.functions < 2 ^ 32
  pub tables : length store.tree.tables + length wasm.tables < 2 ^ 32
  pub memories : length store.tree.memories + length wasm.memories < 2 ^ 32
  pub globals : length store.tree.globals + length wasm.globals < 2 ^ 32

-- a space has what is defined in it, and its indices are of 32 bits
pub record IsSpace (space : List ℕ) (defined : ℕ) : Type 0 where
  pub within : defined ≤ length space
  pub few : length space < 2 ^ 32

-- what a part defines has indices of 32 bits in its spaces, and the exported functions have names of their own
pub record HasRoom (tree : Tree) (part : Part) (spaces : Spaces) : Type 0 where
  pub functions : IsSpace spaces.functions (length part.wasm.functions)
  pub memories : IsSpace spaces.memories (length part.wasm.memories)
  pub globals : IsSpace spaces.globals (length part.wasm.globals)
  -- each function has its code
  pub counts : length part.wasm.functions ≡ length part.wasm.bodies
  pub pairs : AreDistinct (tree.exports ++ filter_map (λ entry. pair (exported part.name spaces entry)) part.wasm.exports)
