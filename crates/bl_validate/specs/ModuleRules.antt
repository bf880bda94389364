-- The rules on the parts of a module other than its bodies' typing, group by group, over the spaces of its scope.
use Rattle.std.specs.Prelude.{◌≡◌, ℕ, ◌<◌, ◌≤◌, List, length, take, None}
use Rattle.std.specs.List.{All}
use Rattle.bl_wasm.specs.Validity.{AreDistinct, IsCode, IsInitial, IsFunctionType, IsInteger, IsLimits, IsMemory, IsOffset}
use Rattle.bl_wasm.specs.declared.types.FuncType.{FuncType}
use Rattle.bl_wasm.specs.declared.types.GlobalType.{GlobalType}
use Rattle.bl_wasm.specs.declared.types.Limits.{Limits}
use Rattle.bl_wasm.specs.declared.module.Code.{Code}
use Rattle.bl_wasm.specs.declared.module.DataSegment.{DataSegment}
use Rattle.bl_wasm.specs.declared.module.DefinedGlobal.{DefinedGlobal}
use Rattle.bl_wasm.specs.declared.module.ElementSegment.{ElementSegment}
use Rattle.bl_wasm.specs.declared.module.Export.{Export}
use Rattle.bl_wasm.specs.declared.module.ExportKind.{ExportKind}
use Rattle.bl_wasm.specs.declared.module.ExportKind.TheVariants as export
use Rattle.bl_wasm.specs.declared.module.Module.{Module}
use Rattle.bl_validate.specs.declared.scope.Scope.{Scope}

-- the types, the functions' type indices, and the code of those that are defined
pub record AreFunctions (types : List FuncType) (functions defined : List ℕ) (bodies : List Code) : Type 0 where
  pub all : All IsFunctionType types
  pub indices : All (λ index. index < length types) functions
  pub counts : length defined ≡ length bodies
  pub codes : All IsCode bodies

-- the tables and memories
pub record AreStores (tables memories : List Limits) : Type 0 where
  pub one_table : length tables ≤ 1
  pub one_memory : length memories ≤ 1
  pub limits : All IsLimits tables
  pub sizes : All IsMemory memories

-- the globals, with the initial values of those that are defined
pub record AreGlobals (globals imports : List GlobalType) (defined : List DefinedGlobal) : Type 0 where
  pub kinds : All (λ type. IsInteger type.kind) globals
  pub initials : All (λ global. IsInitial imports global.kind.kind global.initial) defined

-- a segment of so many tables and functions, and of those globals
pub record IsElementAt (tables functions : ℕ) (globals : List GlobalType) (segment : ElementSegment) : Type 0 where
  pub table : segment.table < tables
  pub offset : IsOffset globals segment.offset
  pub named : All (λ function. function < functions) segment.functions

-- a segment of so many memories, and of those globals
pub record IsDataAt (memories : ℕ) (globals : List GlobalType) (segment : DataSegment) : Type 0 where
  pub memory : segment.memory < memories
  pub offset : IsOffset globals segment.offset

-- the size of the space that an export names
abbrev pub space_in : Scope → ExportKind → ℕ
space_in scope export.Function = length scope.functions.items
space_in scope export.Table = length scope.tables.items
space_in scope export.Memory = length scope.memories.items
space_in scope export.Global = length scope.globals.items

-- all but the exports
pub record AreParts (tree : Module) (scope : Scope) : Type 0 where
  pub functions : AreFunctions scope.types.now scope.functions.items tree.functions tree.bodies
  pub stores : AreStores scope.tables.items scope.memories.items
  pub globals : AreGlobals scope.globals.items (take scope.imported scope.globals.items) tree.globals
  pub elements : All (IsElementAt (length scope.tables.items) (length scope.functions.items) scope.globals.items) tree.elements
  pub segments : All (IsDataAt (length scope.memories.items) scope.globals.items) tree.segments
  pub start : tree.start ≡ None

-- exports exist, by names of their own
pub record AreExports (scope : Scope) (exports : List Export) : Type 0 where
  pub exist : All (λ entry. entry.index < space_in scope entry.kind) exports
  pub distinct : AreDistinct exports
