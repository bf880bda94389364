-- What a body stands in.
use Rattle.std.specs.Prelude.{◌≡◌, ◌++◌, List, length, filter_map}
use Rattle.bl_wasm.specs.Typing.{Context, Spaces, placed}
use Rattle.bl_wasm.specs.Validity.{body_context, functions_of, tables_of, memories_of, globals_of, imported, function_of, table_of, memory_of, global_of}
use Rattle.bl_wasm.specs.declared.types.FuncType.{FuncType}
use Rattle.bl_wasm.specs.declared.module.Code.{Code}
use Rattle.bl_wasm.specs.declared.module.Import.{Import}
use Rattle.bl_wasm.specs.declared.module.Module.{Module}
use Rattle.bl_validate.specs.declared.body.Body.{Body}
use Rattle.bl_validate.specs.declared.scope.Scope.{Scope}

-- what all bodies in a scope share
abbrev pub shared_by : Scope → Spaces
shared_by scope = record {
  types = scope.types.now;
  functions = scope.functions.items;
  globals = scope.globals.items;
  tables = length scope.tables.items;
  memories = length scope.memories.items;
}

-- the context that a body stands in
abbrev pub seen : Body → Context
seen body = placed (shared_by body.scope.now) body.locals.items body.results.now

-- the context of a body of that type and code
abbrev pub context_in : Scope → FuncType → Code → Context
context_in scope type code = body_context (shared_by scope) type code

-- the scope is that of the module
pub record IsScope (tree : Module) (scope : Scope) : Type 0 where
  pub types : scope.types.now ≡ tree.types
  pub functions : scope.functions.items ≡ functions_of tree
  pub tables : scope.tables.items ≡ tables_of tree
  pub memories : scope.memories.items ≡ memories_of tree
  pub globals : scope.globals.items ≡ globals_of tree
  pub imports : scope.imported ≡ length (imported global_of tree)

-- the scope with those imports behind its own
pub record Imports (old : Scope) (entries : List Import) (new : Scope) : Type 0 where
  pub types : new.types.now ≡ old.types.now
  pub functions : new.functions.items ≡ old.functions.items ++ filter_map (λ entry. function_of entry.kind) entries
  pub tables : new.tables.items ≡ old.tables.items ++ filter_map (λ entry. table_of entry.kind) entries
  pub memories : new.memories.items ≡ old.memories.items ++ filter_map (λ entry. memory_of entry.kind) entries
  pub globals : new.globals.items ≡ old.globals.items ++ filter_map (λ entry. global_of entry.kind) entries
