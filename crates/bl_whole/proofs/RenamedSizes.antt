-- Items and bodies have the same sizes in both numberings.
use Rattle.std.proofs.Common.{◌≡◌, ℕ, zero, suc, ◌+◌, ◌*◌, false, List, [], ◌∷◌, length, map, Option, Some, None, slice_get, refl, ap, ap₂, ◌∙◌, arith}
use Rattle.std.specs.Prelude.{option_map}
use Rattle.std.proofs.lemmas.List.{length-map}
use Rattle.bl_wasm.specs.declared.instruction.Instr.{Instr}
use Rattle.bl_wasm.specs.declared.instruction.Instr.TheVariants.{Block, Loop, If, Br, BrIf, BrTable, Return, Call, CallIndirect}
use Rattle.bl_emit.specs.Shapes.{Counts, Shape, Slot, armed, mistyped, uninitialized}
use Rattle.bl_emit.specs.Constructs.{Kind, Target, again, loops, looped, part, start_of, taken, taken_of, to_of, whole}
use Rattle.bl_emit.specs.Items.{arm_size, arms_size, branch_size, branch_sizes, calls_in, head_size, indirect_size, left_new, left_size, pushes_of, size_of, size_to, temps_of}
use Rattle.bl_emit.specs.LoweredBodies.{Body, Extent, block, choice, closed_size, done, joined, leave, loop, size_in, step, takes_of}
use Rattle.bl_wasm.specs.IndexMaps.{renamed as item_by}
use Rattle.bl_access.proofs.Moving.{get_map, up}
use Rattle.bl_whole.proofs.Settings.{AllAlike, AllLead, AllReady, Fits, FitsIn, SizeFits, SizeFitsIn, ReadyFor, Setting, body_by, kind_to, mine, slot_to, target_to, theirs}

module _ (s : Setting) where
  abbrev pub calls : ℕ → Counts
  calls = calls_in s.shapes s.number

  abbrev pub calls_there : ℕ → Counts
  calls_there = calls_in s.shapes_in s.number_in

  abbrev pub targets_to : List Target → List Target
  targets_to open_ones = map (target_to s) open_ones

  -- ---- targets

  looped_to : (kind : Kind) (n : ℕ) → looped (kind_to s kind) n ≡ looped kind n
  looped_to whole n = refl
  looped_to (again start params first) n = refl
  looped_to (part second operands) n = refl

  pub loops_to : (open_ones : List Target) → loops (targets_to open_ones) ≡ loops open_ones
  loops_to [] = refl
  loops_to (t ∷ open_ones) = looped_to t.kind (loops (targets_to open_ones)) ∙ ap (looped t.kind) (loops_to open_ones)

  taken_kind : (kind : Kind) (arity : ℕ) → taken_of (kind_to s kind) arity ≡ taken_of kind arity
  taken_kind whole arity = refl
  taken_kind (again start params first) arity = refl
  taken_kind (part second operands) arity = refl

  pub taken_to : (t : Target) → taken (target_to s t) ≡ taken t
  taken_to t = taken_kind t.kind t.arity

  pub start_to : (kind : Kind) (end : ℕ) → start_of (kind_to s kind) (up s.commands end) ≡ up s.commands (start_of kind end)
  start_to whole end = refl
  start_to (again start params first) end = refl
  start_to (part second operands) end = refl

  pub first_kind : (kind : Kind) (first : ℕ) → to_of (kind_to s kind) (up s.vars first) ≡ up s.vars (to_of kind first)
  first_kind whole first = refl
  first_kind (again start params from) first = refl
  first_kind (part second operands) first = refl

  pub takes_to : (open_ones : List Target) → takes_of (targets_to open_ones) ≡ takes_of open_ones
  takes_to [] = refl
  takes_to (t ∷ open_ones) = ap₂ (λ k l. k ∷ l) (taken_to t) (takes_to open_ones)

  pub ready_get : (open_ones : List Target) (l : ℕ) → AllReady s open_ones → ReadyFor s (slice_get open_ones l)
  ready_get [] l h = tt
  ready_get (t ∷ open_ones) zero h = h.0
  ready_get (t ∷ open_ones) (suc l) h = ready_get open_ones l h.1

  module _ (same : (theirs s).results ≡ (mine s).results) where
    size_for : (o : Option Target) → size_to s.shapes_in s.number_in (option_map (target_to s) o) ≡ size_to s.shapes s.number o
    size_for None = ap suc same
    size_for (Some t) = ap suc (taken_to t)

    pub size_to_by : (open_ones : List Target) (l : ℕ) → size_to s.shapes_in s.number_in (slice_get (targets_to open_ones) l) ≡ size_to s.shapes s.number (slice_get open_ones l)
    size_to_by open_ones l = ap (size_to s.shapes_in s.number_in) (get_map (target_to s) open_ones l) ∙ size_for (slice_get open_ones l)

  -- ---- slots

  pub arm_size_by : (slot : Slot) (slots : List Slot) → AllAlike s (slot ∷ slots) → arm_size calls_there (slot_to s.names slot) ≡ arm_size calls slot
  arm_size_by (armed f) slots h = let p = h.0.params in let r = h.0.results in omega arith
  arm_size_by uninitialized slots h = refl
  arm_size_by mistyped slots h = refl

  pub alike_rest : (slot : Slot) (slots : List Slot) → AllAlike s (slot ∷ slots) → AllAlike s slots
  alike_rest (armed f) slots h = h.1
  alike_rest uninitialized slots h = h
  alike_rest mistyped slots h = h

  pub all_alike : (slots : List Slot) → AllLead s slots → AllAlike s slots
  all_alike [] h = tt
  all_alike (armed f ∷ slots) h = (h.0.alike, all_alike slots h.1)
  all_alike (uninitialized ∷ slots) h = all_alike slots h
  all_alike (mistyped ∷ slots) h = all_alike slots h

  pub lead_rest : (slot : Slot) (slots : List Slot) → AllLead s (slot ∷ slots) → AllLead s slots
  lead_rest (armed f) slots h = h.1
  lead_rest uninitialized slots h = h
  lead_rest mistyped slots h = h

  arms_size_by : (slots : List Slot) → AllAlike s slots → arms_size calls_there (map (slot_to s.names) slots) ≡ arms_size calls slots
  arms_size_by [] h = refl
  arms_size_by (slot ∷ slots) h = ap₂ (λ a b. a + b) (arm_size_by slot slots h) (arms_size_by slots (alike_rest slot slots h))

  head_size_by : (slots : List Slot) → head_size (map (slot_to s.names) slots) ≡ head_size slots
  head_size_by [] = refl
  head_size_by (slot ∷ slots) = ap (λ k. 2 * suc k) (length-map slots (slot_to s.names))

  pub indirect_by : (slots : List Slot) → AllAlike s slots → indirect_size calls_there (map (slot_to s.names) slots) ≡ indirect_size calls slots
  indirect_by slots h = ap₂ (λ a b. a + b) (head_size_by slots) (arms_size_by slots h)

  -- ---- items

  module _ (same : (theirs s).results ≡ (mine s).results) where
    abbrev Mine : Shape
    Mine = mine s

    abbrev There : Shape
    There = theirs s

    size_of_by : (takes : List ℕ) (item : Instr) → SizeFits s item
        → size_of calls_there There.wanted There.slots There.results takes (item_by s.names item) ≡ size_of calls Mine.wanted Mine.slots Mine.results takes item
    size_of_by takes (BrIf l) h = ap (λ r. suc (branch_size r (slice_get takes l))) same
    size_of_by takes (Call f) h = let p = h.params in let r = h.results in omega arith
    size_of_by takes (CallIndirect i) h = ap (indirect_size calls_there) h.1 ∙ indirect_by (Mine.slots i) h.2
    size_of_by takes item h = refl

    temps_of_by : (item : Instr) → SizeFits s item → temps_of calls_there There.wanted There.slots There.results (item_by s.names item) ≡ temps_of calls Mine.wanted Mine.slots Mine.results item
    temps_of_by (CallIndirect i) h = ap length h.1 ∙ length-map (Mine.slots i) (slot_to s.names)
    temps_of_by item h = refl

    pushes_of_by : (item : Instr) → SizeFits s item → pushes_of calls_there There.wanted There.slots There.results (item_by s.names item) ≡ pushes_of calls Mine.wanted Mine.slots Mine.results item
    pushes_of_by (Call f) h = h.results
    pushes_of_by (CallIndirect i) h = ap (λ c. c.results) h.0
    pushes_of_by item h = refl

    left_size_by : (takes : List ℕ) (item : Instr) → left_size calls_there There.wanted There.slots There.results takes (item_by s.names item) ≡ left_size calls Mine.wanted Mine.slots Mine.results takes item
    left_size_by takes (Br l) = ap (λ r. branch_size r (slice_get takes l)) same
    left_size_by takes (BrTable default ls) = ap (λ r. 2 * length ls + (branch_size r (slice_get takes default) + branch_sizes r takes ls)) same
    left_size_by takes Return = ap suc same
    left_size_by takes item = refl

    left_new_by : (item : Instr) → left_new calls_there There.wanted There.slots There.results (item_by s.names item) ≡ left_new calls Mine.wanted Mine.slots Mine.results item
    left_new_by (BrTable default ls) = refl
    left_new_by item = refl

    -- ---- bodies

    sized_item : (item : Instr) → Fits s item → SizeFits s item
    sized_item (Call f) h = h.alike
    sized_item (CallIndirect i) h = (h.0, h.1, all_alike (Mine.slots i) h.2)
    sized_item (Block r) h = h
    sized_item (Loop r) h = h
    sized_item (If r) h = h
    sized_item item h = tt

    pub sized_in : (body : Body) → FitsIn s body → SizeFitsIn s body
    sized_in done h = tt
    sized_in (leave item body) h = tt
    sized_in (step item body) h = (sized_item item h.0, sized_in body h.1)
    sized_in (block r inner body) h = (h.0, sized_in inner h.1, sized_in body h.2)
    sized_in (loop r inner body) h = (h.0, sized_in inner h.1, sized_in body h.2)
    sized_in (choice r first other second body) h = (h.0, sized_in first h.1, sized_in second h.2, sized_in body h.3)

    abbrev pub size_here : List ℕ → Body → Extent
    size_here takes body = size_in s.blocks s.shapes s.number takes body

    abbrev pub size_there : List ℕ → Body → Extent
    size_there takes body = size_in s.blocks_in s.shapes_in s.number_in takes (body_by s.names body)

    abbrev one_part : ℕ → Extent → Extent → Extent
    one_part m i later = joined (1 + closed_size m i) (m + i.new) later

    abbrev loop_part : Counts → Extent → Extent → Extent
    loop_part c i later = joined (c.params + (1 + closed_size c.results i)) (c.params + (c.results + i.new)) later

    abbrev two_parts : ℕ → Extent → Extent → Extent → Extent
    two_parts m i j later = joined (1 + closed_size m i + closed_size m j) (m + i.new + j.new) later

    pub extent_by : (takes : List ℕ) (body : Body) → SizeFitsIn s body → size_there takes body ≡ size_here takes body
    extent_by takes done h = refl
    extent_by takes (leave item body) h = ap₂ (λ (a b : ℕ). let x : Extent = record { size = a; new = b; ends = false } in x) (left_size_by takes item) (left_new_by item)
    extent_by takes (step item body) h =
        let a = size_of_by takes item h.0 in
        let b = temps_of_by item h.0 in
        let c = pushes_of_by item h.0 in
        let later = extent_by takes body h.1 in
        ap₂ (λ a l. joined a (temps_of calls_there There.wanted There.slots There.results (item_by s.names item) + pushes_of calls_there There.wanted There.slots There.results (item_by s.names item)) l) a later
        ∙ ap₂ (λ b c. joined (size_of calls Mine.wanted Mine.slots Mine.results takes item) (b + c) (size_here takes body)) b c
    extent_by takes (block r inner body) h =
        let m = (s.blocks r).results in
        ap (λ (c : Counts). one_part c.results (size_there (c.results ∷ takes) inner) (size_there takes body)) h.0
        ∙ ap₂ (one_part m) (extent_by (m ∷ takes) inner h.1) (extent_by takes body h.2)
    extent_by takes (loop r inner body) h =
        let c = s.blocks r in
        ap (λ (c : Counts). loop_part c (size_there (c.params ∷ takes) inner) (size_there takes body)) h.0
        ∙ ap₂ (loop_part c) (extent_by (c.params ∷ takes) inner h.1) (extent_by takes body h.2)
    extent_by takes (choice r first other second body) h =
        let m = (s.blocks r).results in
        ap (λ (c : Counts). two_parts c.results (size_there (c.results ∷ takes) first) (size_there (c.results ∷ takes) second) (size_there takes body)) h.0
        ∙ ap₂ (λ i j. two_parts m i j (size_there takes body)) (extent_by (m ∷ takes) first h.1) (extent_by (m ∷ takes) second h.2)
        ∙ ap (two_parts m (size_here (m ∷ takes) first) (size_here (m ∷ takes) second)) (extent_by takes body h.3)
