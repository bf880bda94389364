-- A typing carries over to renamed items.
use Rattle.std.proofs.Common.{◌≡◌, List, [], ◌∷◌, map, Some}
use Rattle.bl_wasm.specs.declared.instruction.Instr.{Instr}
use Rattle.bl_wasm.specs.declared.instruction.Instr.TheVariants.{Block, Loop, If, Else, End, Call, CallIndirect, GlobalGet, GlobalSet, Load, Store, MemorySize, MemoryGrow}
use Rattle.bl_wasm.specs.declared.types.WasmType.{WasmType}
use Rattle.bl_wasm.specs.declared.types.WasmType.TheVariants.{I32}
use Rattle.bl_wasm.specs.OpenConstructs.{Kind, of_block, of_loop, then_part}
use Rattle.bl_wasm.specs.Typing.{Begins, IsTyping, Open, Plain, Rule, Spaces, Stays, Types, expanded, labels, placed}
use Rattle.bl_wasm.specs.IndexMaps.{Names, NameAlike, renamed, renamed_block_type}
use Rattle.bl_wasm.specs.declared.types.BlockType.{BlockType}
use Rattle.bl_wasm.specs.declared.types.BlockType.TheVariants.{Empty, Value, Index}
use Rattle.bl_wasm.specs.declared.types.FuncType.{FuncType}

module _ (names : Names) (here there : Spaces) (alike : NameAlike names here there) (locals results : List WasmType) where
  block_type : (immediate : BlockType) (type : FuncType) → expanded here.types immediate ≡ Some type → expanded there.types (renamed_block_type names immediate) ≡ Some type
  block_type Empty type h = h
  block_type (Value result) type h = h
  block_type (Index index) type h = alike.types index type h

  begins : (kind : Kind) (i : BlockType) (above : List WasmType) (outer : List Open) (from : List WasmType) (inner : List Open) (to : List WasmType)
      → Begins (placed here locals results) kind i above outer from inner to → Begins (placed there locals results) kind (renamed_block_type names i) above outer from inner to
  begins kind i above outer from inner to b = record { type = b.type; lower = b.lower; named = block_type i b.type b.named; before = b.before; inside = b.inside; behind = b.behind }

  plain : (ls : List (List WasmType)) (item : Instr) (from to : List WasmType) → Plain (placed here locals results) ls item from to → Plain (placed there locals results) ls (renamed names item) from to
  plain ls (Call function) from to h = (h.0, alike.functions function h.0 h.1, h.2)
  plain ls (CallIndirect type) from to h = (h.0, alike.types type h.0 h.1, alike.tables h.2, h.3)
  plain ls (GlobalGet global) from to h = (h.0, alike.globals global h.0 h.1, h.2)
  plain ls (GlobalSet global) from to h = (h.0, alike.globals global h.0 h.1, h.2, h.3)
  plain ls (Load kind argument) from to h = (h.0, h.1, alike.memories h.2, h.3)
  plain ls (Store kind argument) from to h = (h.0, h.1, alike.memories h.2, h.3)
  plain ls MemorySize from to h = (alike.memories h.0, h.1)
  plain ls MemoryGrow from to h = (alike.memories h.0, h.1)
  plain ls item from to h = h

  stays : (item : Instr) (outer inner : List Open) (from to : List WasmType) → Stays (placed here locals results) item outer from inner to → Stays (placed there locals results) (renamed names item) outer from inner to
  stays item outer inner from to s = record { inside = s.inside; rule = plain (labels (placed here locals results) outer) item from to s.rule }

  rule : (item : Instr) (outer : List Open) (from : List WasmType) (inner : List Open) (to : List WasmType)
      → Rule (placed here locals results) item outer from inner to → Rule (placed there locals results) (renamed names item) outer from inner to
  rule (Block i) outer from inner to h = begins of_block i [] outer from inner to h
  rule (Loop i) outer from inner to h = begins of_loop i [] outer from inner to h
  rule (If i) outer from inner to h = begins then_part i (I32 ∷ []) outer from inner to h
  rule Else [] from inner to h = h
  rule Else (one ∷ outer) from inner to h = h
  rule End [] from inner to h = h
  rule End (one ∷ outer) from inner to h = h
  rule item outer from inner to h = stays item outer inner from to h

  pub carries : (items : List Instr) (outer : List Open) (places : List (List WasmType))
      → Types (placed here locals results) outer items places → Types (placed there locals results) outer (map (renamed names) items) places
  carries [] outer [] h = h
  carries [] outer (last ∷ []) h = h
  carries [] outer (last ∷ other ∷ more) h = h
  carries (item ∷ items) outer [] h = h
  carries (item ∷ items) outer (from ∷ []) h = h
  carries (item ∷ items) outer (from ∷ to ∷ later) h = (h.0, rule item outer from h.0 to h.1, carries items h.0 (to ∷ later) h.2)

  pub carries_whole : (items : List Instr) (places : List (List WasmType)) → IsTyping (placed here locals results) items places → IsTyping (placed there locals results) (map (renamed names) items) places
  carries_whole items places h = (h.0, carries items [] places h.1)
