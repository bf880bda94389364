-- The same parts linked behind different others.
use Rattle.std.specs.Prelude.{◌≡◌, ℕ, ◌+◌, List, ◌++◌, length, slice_get, Some, None, Ok, fold, ◌⊎◌}
use Rattle.std.specs.List.{All, AllZip, Contains, enumerate_from}
use Rattle.bl_wasm.specs.Exports.{value_named}
use Rattle.bl_wasm.specs.declared.module.ExportKind.{ExportKind}
use Rattle.bl_wasm.specs.declared.module.ExportKind.TheVariants as export
use Rattle.bl_wasm.specs.declared.linked.Tree.{Tree}
use Rattle.bl_apart.specs.Beside.{AreBeside}
use Rattle.bl_rename.specs.Renamings.{Numbers}
use Rattle.bl_link.specs.declared.part.Part.{Part}
use Rattle.bl_apart.specs.LinkedTypes.{External, Spaces, Store}
use Rattle.bl_link.specs.Links.{nothing, with_next}
use Rattle.bl_link.specs.ExportNames.{Values, qualified}
use Rattle.bl_wasm.specs.declared.module.Import.{Import}

-- two trees that others stand behind, and two numberings
pub record Setting : Type 0 where
  pub ours : Numbers
  pub theirs : Numbers
  pub stub : Tree
  pub library : Tree

-- numbers of what stands equally far behind
abbrev pub Same : ℕ → ℕ → ℕ → ℕ → Type 0
Same a b m n = (j : ℕ) × (m ≡ a + j) × (n ≡ b + j)

-- the numberings agree on what stands behind
pub record Agree (s : Setting) : Type 0 where
  pub types : (j : ℕ) → s.ours.names.type (length s.stub.types + j) ≡ s.theirs.names.type (length s.library.types + j)
  pub functions : (j : ℕ) → s.ours.names.function (length s.stub.functions + j) ≡ s.theirs.names.function (length s.library.functions + j)
  pub globals : (j : ℕ) → s.ours.names.global (length s.stub.globals + j) ≡ s.theirs.names.global (length s.library.globals + j)
  pub memories : (j : ℕ) → s.ours.memory (length s.stub.memories + j) ≡ s.theirs.memory (length s.library.memories + j)
  pub tables : (j : ℕ) → s.ours.table (length s.stub.tables + j) ≡ s.theirs.table (length s.library.tables + j)

-- numbers of a kind that mean the same: functions by the numberings, all else by where it stands
abbrev pub NumberAlike : Setting → ExportKind → ℕ → ℕ → Type 0
NumberAlike s export.Function m n = s.ours.names.function m ≡ s.theirs.names.function n
NumberAlike s export.Table m n = Same (length s.stub.tables) (length s.library.tables) m n
NumberAlike s export.Memory m n = Same (length s.stub.memories) (length s.library.memories) m n
NumberAlike s export.Global m n = Same (length s.stub.globals) (length s.library.globals) m n

pub record ValueAlike (s : Setting) (a b : External) : Type 0 where
  pub kind : a.kind ≡ b.kind
  pub number : NumberAlike s a.kind a.number b.number

pub record SpacesAlike (s : Setting) (a b : Spaces) : Type 0 where
  pub types : AllZip (Same (length s.stub.types) (length s.library.types)) a.types b.types
  pub functions : AllZip (NumberAlike s export.Function) a.functions b.functions
  pub tables : AllZip (NumberAlike s export.Table) a.tables b.tables
  pub memories : AllZip (NumberAlike s export.Memory) a.memories b.memories
  pub globals : AllZip (NumberAlike s export.Global) a.globals b.globals

-- an export by the same name that means the same
abbrev pub EntryAlike : Setting → List ℕ × External → List ℕ × External → Type 0
EntryAlike s a b = (a.0 ≡ b.0) × ValueAlike s a.1 b.1

-- what is exported behind the others'
pub record ExportsBeside (s : Setting) (stub here library there : Values) : Type 0 where
  pub ours : Values
  pub theirs : Values
  pub here_is : here ≡ stub ++ ours
  pub there_is : there ≡ library ++ theirs
  pub alike : AllZip (EntryAlike s) ours theirs

-- the stores of the same parts behind two others
pub record StoresBeside (s : Setting) (stub here library there : Store) : Type 0 where
  pub trees : AreBeside s.ours s.theirs s.stub here.tree s.library there.tree
  pub exports : ExportsBeside s stub.exports here.exports library.exports there.exports

-- a name that the others don't export, or under which they export what means the same
abbrev pub IsKnown : Setting → Values → Values → List ℕ → Type 0
IsKnown s stub library name =
    ((value_named name stub ≡ None) × (value_named name library ≡ None))
    ⊎ ((a : External) × (b : External) × (value_named name stub ≡ Some a) × (value_named name library ≡ Some b) × ValueAlike s a b)

abbrev pub IsGiven : Setting → Values → Values → Import → Type 0
IsGiven s stub library wanted = IsKnown s stub library (qualified wanted.from wanted.name)

-- all that users import is known behind both
pub record AreGiven (s : Setting) (stubs libraries users : List Part) : Type 0 where
  pub one : Store
  pub other : Store
  pub one_is : fold with_next (Ok nothing) (enumerate_from 0 stubs) ≡ Ok one
  pub other_is : fold with_next (Ok nothing) (enumerate_from 0 libraries) ≡ Ok other
  pub one_tree : s.stub ≡ one.tree
  pub other_tree : s.library ≡ other.tree
  pub imports : All (λ user. All (IsGiven s one.exports other.exports) user.wasm.imports) users

-- a function that a tree exports by that name
abbrev pub Exports : Tree → List ℕ → ℕ → Type 0
Exports tree name function = (i : ℕ) × (slice_get tree.exports i ≡ Some (name, function))

-- an import that names a user, or a function that both export by that name and that means the same
abbrev pub IsOffered : Setting → List Part → Import → Type 0
IsOffered s users wanted =
    ((user : Part) × Contains users user × (user.name ≡ wanted.from))
    ⊎ ((f : ℕ) × (g : ℕ) × Exports s.stub (qualified wanted.from wanted.name) f × Exports s.library (qualified wanted.from wanted.name) g
    × (s.ours.names.function f ≡ s.theirs.names.function g))
