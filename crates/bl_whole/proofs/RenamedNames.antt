-- The nested body of items with other names, and what a typing says of the types that items name.
use Rattle.std.proofs.Common.{◌≡◌, true, false, List, [], ◌∷◌, map, Option, Some, None, slice_get, refl, ap, ◌∙◌}
use Rattle.std.specs.Prelude.{option_map}
use Rattle.bl_wasm.specs.Typing.{Context, Open, Rule, Types, expanded}
use Rattle.bl_wasm.specs.declared.instruction.Instr.{Instr}
use Rattle.bl_wasm.specs.declared.instruction.Instr.TheVariants.{Block, Loop, If, Else, End, CallIndirect}
use Rattle.bl_wasm.specs.declared.types.BlockType.{BlockType}
use Rattle.bl_wasm.specs.declared.types.FuncType.{FuncType}
use Rattle.bl_wasm.specs.declared.types.WasmType.{WasmType}
use Rattle.bl_emit.specs.LoweredBodies.{Body, block, choice, done, leave, loop, step}
use Rattle.bl_emit.specs.NestedBodies.{Level, chosen, level, nest, nest_item, nested, outermost}
use Rattle.bl_lower.proofs.CodeLayout.{flat}
use Rattle.bl_lower.proofs.TypedItems.{Each}
use Rattle.bl_lower.proofs.Typings.{IsBody}
use Rattle.bl_wasm.specs.IndexMaps.{Names, renamed as item_by, renamed_block_type}
use Rattle.bl_whole.proofs.Settings.{AllIn, body_by}

-- ---- nesting

module _ (names : Names) where
  abbrev level_by : Level → Level
  level_by l = level (body_by names l.body) (option_map (body_by names) l.second)

  chosen_by : (r : BlockType) (first : Body) (second : Option Body) (later : Body)
      → chosen (renamed_block_type names r) (body_by names first) (option_map (body_by names) second) (body_by names later) ≡ body_by names (chosen r first second later)
  chosen_by r first None later = refl
  chosen_by r first (Some second) later = refl

  item_nests : (item : Instr) (levels : List Level) → nest_item (item_by names item) (map level_by levels) ≡ map level_by (nest_item item levels)
  item_nests (Block r) [] = refl
  item_nests (Block r) (l ∷ []) = refl
  item_nests (Block r) (l ∷ o ∷ outer) = refl
  item_nests (Loop r) [] = refl
  item_nests (Loop r) (l ∷ []) = refl
  item_nests (Loop r) (l ∷ o ∷ outer) = refl
  item_nests (If r) [] = refl
  item_nests (If r) (l ∷ []) = refl
  item_nests (If r) (l ∷ o ∷ outer) =
      ap (λ (b : Body). level b (option_map (body_by names) o.second) ∷ map level_by outer) (chosen_by r l.body l.second o.body)
  item_nests Else [] = refl
  item_nests Else (l ∷ outer) = refl
  item_nests End levels = refl
  item_nests item [] = refl
  item_nests item (l ∷ outer) = refl

  nests : (items : List Instr) → nest (map (item_by names) items) ≡ map level_by (nest items)
  nests [] = refl
  nests (item ∷ items) = ap (nest_item (item_by names item)) (nests items) ∙ item_nests item (nest items)

  outermost_by : (levels : List Level) → outermost (map level_by levels) ≡ body_by names (outermost levels)
  outermost_by [] = refl
  outermost_by (l ∷ outer) = refl

  pub nested_by : (items : List Instr) → nested (map (item_by names) items) ≡ body_by names (nested items)
  nested_by items = ap outermost (nests items) ∙ outermost_by (nest items)

-- ---- items of a body

module _ (F : Instr → Type 0) where
  pub all_in : (body : Body) (k : List Instr) → IsBody body → Each F (flat body k) → AllIn F body × Each F k
  all_in done k is h = (tt, h)
  all_in (step item body) k is h = let r = all_in body k is.1 h.1 in ((h.0, r.0), r.1)
  all_in (leave item body) k is h = let r = all_in body k is.1 h.1 in (tt, r.1)
  all_in (block r inner body) k is h =
      let i = all_in inner (End ∷ flat body k) is.0 h.1 in
      let b = all_in body k is.1 i.1.1 in
      ((h.0, i.0, b.0), b.1)
  all_in (loop r inner body) k is h =
      let i = all_in inner (End ∷ flat body k) is.0 h.1 in
      let b = all_in body k is.1 i.1.1 in
      ((h.0, i.0, b.0), b.1)
  all_in (choice r first true second body) k is h =
      let i = all_in first (Else ∷ flat second (End ∷ flat body k)) is.0 h.1 in
      let j = all_in second (End ∷ flat body k) is.1 i.1.1 in
      let b = all_in body k is.2 j.1.1 in
      ((h.0, i.0, j.0, b.0), b.1)
  all_in (choice r first false done body) k is h =
      let i = all_in first (End ∷ flat body k) is.0 h.1 in
      let b = all_in body k is.2 i.1.1 in
      ((h.0, i.0, tt, b.0), b.1)
  all_in (choice r first false second body) k is h = absurd is.1

module _ (F G H : Instr → Type 0) (both : (item : Instr) → F item → G item → H item) where
  pub each_of_both : (items : List Instr) → Each F items → Each G items → Each H items
  each_of_both [] h k = tt
  each_of_both (item ∷ items) h k = (both item h.0 k.0, each_of_both items h.1 k.1)

-- ---- types that items name

abbrev pub Named : Context → Instr → Type 0
Named c (Block r) = (type : FuncType) × (expanded c.types r ≡ Some type)
Named c (Loop r) = (type : FuncType) × (expanded c.types r ≡ Some type)
Named c (If r) = (type : FuncType) × (expanded c.types r ≡ Some type)
Named c (CallIndirect i) = (type : FuncType) × (slice_get c.types i ≡ Some type)
Named c item = Unit {0}

module _ (c : Context) where
  is_named : (item : Instr) (outer : List Open) (from : List WasmType) (inner : List Open) (to : List WasmType) → Rule c item outer from inner to → Named c item
  is_named (Block r) outer from inner to rule = (rule.type, rule.named)
  is_named (Loop r) outer from inner to rule = (rule.type, rule.named)
  is_named (If r) outer from inner to rule = (rule.type, rule.named)
  is_named (CallIndirect i) outer from inner to rule = (rule.rule.0, rule.rule.1)
  is_named item outer from inner to rule = tt

  pub all_named : (items : List Instr) (ones : List Open) (places : List (List WasmType)) → Types c ones items places → Each (Named c) items
  all_named [] ones places h = tt
  all_named (item ∷ items) ones [] h = absurd h
  all_named (item ∷ items) ones (from ∷ []) h = absurd h
  all_named (item ∷ items) ones (from ∷ to ∷ later) h = (is_named item ones from h.0 to h.1, all_named items h.0 (to ∷ later) h.2)
