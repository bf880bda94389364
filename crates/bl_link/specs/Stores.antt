-- What holds of all that is linked of parts, in every order.
use Rattle.std.specs.Prelude.{◌≡◌, ℕ, ◌+◌, ◌*◌, ◌^◌, ◌<◌, ◌≤◌, ◌++◌, ◌∷◌, false, List, length, slice_get, Option, Some, IfSome}
use Rattle.std.specs.List.{All, Contains}
use Rattle.bl_base.specs.Fits.{ArgumentFits}
use Rattle.bl_base.specs.Quantity.{limit_of}
use Rattle.bl_base.specs.declared.names.Label.TheVariants.{Secret}
use Rattle.bl_base.specs.declared.quantity.Quantity.TheVariants as quantity
use Rattle.bl_wasm.specs.Exports.{AreDistinct}
use Rattle.bl_wasm.specs.Linked.{IsFunction, IsMemory}
use Rattle.bl_wasm.specs.declared.linked.Tree.{Tree}
use Rattle.bl_link.specs.TreeGrowth.{Grows}
use Rattle.bl_link.specs.IndexSpaces.{External, Part, Store}

-- slots name functions that exist, of so many
abbrev pub IsTable : ℕ → List (Option ℕ) → Type 0
IsTable count slots = All (λ slot. IfSome slot (λ function. function < count)) slots

-- no two elements have one name
abbrev pub AreApart : {A : Type 0} → (A → List ℕ) → List A → Type 0
AreApart {A} name xs = (i j : ℕ) (a b : A) → slice_get xs i ≡ Some a → slice_get xs j ≡ Some b → name a ≡ name b → i ≡ j

-- the name of a pair is one of an export of those parts
abbrev pub IsOfPart : List Part → List ℕ → Type 0
IsOfPart done name = (part : Part) × Contains done part × (rest : List ℕ) × (name ≡ part.name ++ 0x2F ∷ rest)

abbrev pub OfPart : List Part → List ℕ × ℕ → Type 0
OfPart done pair = IsOfPart done pair.0

abbrev pub ValueOfPart : List Part → List ℕ × External → Type 0
ValueOfPart done value = IsOfPart done value.0

-- what holds of all that is linked of those parts
pub record IsStore (done : List Part) (store : Store) : Type 0 where
  pub tables : length store.tables ≡ length store.tree.tables
  pub sizes : length store.memories ≡ length store.tree.memories
  pub types : All (λ type. length type.results ≤ limit_of quantity.Results) store.tree.types
  -- the functions have typings in every later tree
  pub functions : (later : Tree) → Grows store.tree later → All (IsFunction later) store.tree.functions
  pub globals : All (λ global. ArgumentFits global.kind global.initial) store.tree.globals
  pub labels : All (λ global. global.label ≡ Secret → global.demanded ≡ false) store.tree.globals
  pub memories : All IsMemory store.tree.memories
  pub slots : All (IsTable (length store.tree.functions)) store.tree.tables
  pub exports : All (λ pair. pair.1 < length store.tree.functions) store.tree.exports
  pub distinct : AreDistinct store.tree.exports
  pub named : All (OfPart done) store.tree.exports
  -- the exports that parts can import, by names of their own
  pub values_distinct : AreApart (λ (value : List ℕ × External). value.0) store.exports
  pub values_named : All (ValueOfPart done) store.exports
  pub type_count : length store.tree.types + length done ≤ 2 ^ 26 * length done
  pub table_count : length store.tree.tables ≤ length done
  pub function_count : length store.tree.functions ≤ limit_of quantity.Functions * length done
  pub memory_count : length store.tree.memories ≤ length done
  pub global_count : length store.tree.globals + length done ≤ 2 ^ 26 * length done
