-- Items with other names have the same typing where the names mean the same.
use Rattle.std.proofs.Common.{◌≡◌, ℕ, ◌≤◌, List, [], ◌∷◌, map, Some, slice_get, sym, subst}
use Rattle.bl_wasm.specs.Linked.{HasImmediates}
use Rattle.bl_wasm.specs.OpenConstructs.{Kind}
use Rattle.bl_wasm.specs.Typing.{Begins, Context, Open, Plain, Rule, Spaces, Types, expanded, labels, placed}
use Rattle.bl_wasm.specs.declared.instruction.Instr.{Instr}
use Rattle.bl_wasm.specs.declared.instruction.Instr.TheVariants.{Block, Loop, If, Else, End, Call, CallIndirect, GlobalGet, GlobalSet, Load, Store, MemorySize, MemoryGrow}
use Rattle.bl_wasm.specs.declared.types.BlockType.{BlockType}
use Rattle.bl_wasm.specs.declared.types.BlockType.TheVariants.{Empty, Value, Index}
use Rattle.bl_wasm.specs.declared.types.FuncType.{FuncType}
use Rattle.bl_wasm.specs.declared.types.GlobalType.{GlobalType}
use Rattle.bl_wasm.specs.declared.types.WasmType.{WasmType}
use Rattle.bl_wasm.specs.IndexMaps.{Names, renamed as item_by, renamed_block_type}

-- the names mean the same in the whole
pub record Carries (names : Names) (part whole : Spaces) : Type 0 where
  pub types : (i : ℕ) (t : FuncType) → slice_get part.types i ≡ Some t → slice_get whole.types (names.type i) ≡ Some t
  pub functions : (f i : ℕ) (t : FuncType) → slice_get part.functions f ≡ Some i → slice_get part.types i ≡ Some t
      → (j : ℕ) × (slice_get whole.functions (names.function f) ≡ Some j) × (slice_get whole.types j ≡ Some t)
  pub globals : (x : ℕ) (g : GlobalType) → slice_get part.globals x ≡ Some g → slice_get whole.globals (names.global x) ≡ Some g
  pub tables : whole.tables ≡ part.tables
  pub memories : whole.memories ≡ part.memories

pub immediate_by : (names : Names) (item : Instr) → HasImmediates item → HasImmediates (item_by names item)
immediate_by names (Block r) h = tt
immediate_by names (Loop r) h = tt
immediate_by names (If r) h = tt
immediate_by names (Call f) h = tt
immediate_by names (CallIndirect i) h = tt
immediate_by names (GlobalGet x) h = tt
immediate_by names (GlobalSet x) h = tt
immediate_by names item h = h

module _ (names : Names) (part whole : Spaces) (carries : Carries names part whole) (locals results : List WasmType) where
  abbrev here : Context
  here = placed part locals results

  abbrev there : Context
  there = placed whole locals results

  expanded_by : (r : BlockType) (t : FuncType) → expanded part.types r ≡ Some t → expanded whole.types (renamed_block_type names r) ≡ Some t
  expanded_by Empty t e = e
  expanded_by (Value kind) t e = e
  expanded_by (Index i) t e = carries.types i t e

  seen_by : 1 ≤ part.memories → 1 ≤ whole.memories
  seen_by h = subst (λ k. 1 ≤ k) (sym carries.memories) h

  plain_by : (item : Instr) (ls : List (List WasmType)) (from to : List WasmType) → Plain here ls item from to → Plain there ls (item_by names item) from to
  plain_by (Call f) ls from to h = let g = carries.functions f h.1.0 h.0 h.1.1 h.1.2 in (h.0, (g.0, g.1, g.2), h.2)
  plain_by (CallIndirect i) ls from to h = (h.0, carries.types i h.0 h.1, subst (λ k. 1 ≤ k) (sym carries.tables) h.2, h.3)
  plain_by (GlobalGet x) ls from to h = (h.0, carries.globals x h.0 h.1, h.2)
  plain_by (GlobalSet x) ls from to h = (h.0, carries.globals x h.0 h.1, h.2, h.3)
  plain_by (Load kind argument) ls from to h = (h.0, h.1, seen_by h.2, h.3)
  plain_by (Store kind argument) ls from to h = (h.0, h.1, seen_by h.2, h.3)
  plain_by MemorySize ls from to h = (seen_by h.0, h.1)
  plain_by MemoryGrow ls from to h = (seen_by h.0, h.1)
  plain_by item ls from to h = h

  begins_by : (kind : Kind) (r : BlockType) (above : List WasmType) (outer : List Open) (from : List WasmType) (inner : List Open) (to : List WasmType)
      → Begins here kind r above outer from inner to → Begins there kind (renamed_block_type names r) above outer from inner to
  begins_by kind r above outer from inner to h = record {
    type = h.type;
    lower = h.lower;
    named = expanded_by r h.type h.named;
    before = h.before;
    inside = h.inside;
    behind = h.behind;
  }

  rule_by : (item : Instr) (outer : List Open) (from : List WasmType) (inner : List Open) (to : List WasmType) → Rule here item outer from inner to → Rule there (item_by names item) outer from inner to
  rule_by (Block r) outer from inner to h = begins_by _ r _ outer from inner to h
  rule_by (Loop r) outer from inner to h = begins_by _ r _ outer from inner to h
  rule_by (If r) outer from inner to h = begins_by _ r _ outer from inner to h
  rule_by Else [] from inner to h = h
  rule_by Else (one ∷ outer) from inner to h = h
  rule_by End [] from inner to h = h
  rule_by End (one ∷ outer) from inner to h = h
  rule_by item outer from inner to h = record { inside = h.inside; rule = plain_by item (labels here outer) from to h.rule }

  pub types_by : (open_ones : List Open) (items : List Instr) (places : List (List WasmType)) → Types here open_ones items places → Types there open_ones (map (item_by names) items) places
  types_by open_ones [] [] h = h
  types_by open_ones [] (last ∷ []) h = h
  types_by open_ones [] (last ∷ to ∷ later) h = h
  types_by open_ones (item ∷ items) [] h = h
  types_by open_ones (item ∷ items) (from ∷ []) h = h
  types_by open_ones (item ∷ items) (from ∷ to ∷ later) h = (h.0, rule_by item open_ones from h.0 to h.1, types_by h.0 items (to ∷ later) h.2)
