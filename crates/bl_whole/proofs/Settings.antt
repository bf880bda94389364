-- One body in two numberings: what the items of a part name, and where the same items stand in the whole.
use Rattle.std.proofs.Common.{◌≡◌, ℕ, ◌+◌, ◌<◌, ◌≤◌, List, [], ◌∷◌, map, Option, Some, None}
use Rattle.bl_wasm.specs.declared.instruction.Instr.{Instr}
use Rattle.bl_wasm.specs.declared.instruction.Instr.TheVariants.{Block, Loop, If, Call, CallIndirect, LocalGet, LocalSet, LocalTee, GlobalGet, GlobalSet, Load, Store, MemorySize, MemoryGrow}
use Rattle.bl_wasm.specs.declared.types.BlockType.{BlockType}
use Rattle.bl_program.specs.declared.command.Operand.{Operand}
use Rattle.bl_emit.specs.Shapes.{Counts, Shape, Slot, armed, bottom, local, mistyped, result, uninitialized}
use Rattle.bl_emit.specs.Constructs.{Kind, Point, Target, again, first_to, part, point, start_of, taken, whole}
use Rattle.bl_emit.specs.LoweredBodies.{Body, Reached, block, choice, done, leave, loop, off, on, step}
use Rattle.bl_iface.specs.JoinedProgram.{Renaming}
use Rattle.bl_wasm.specs.IndexMaps.{Names, renamed as item_by, renamed_block_type}
use Rattle.bl_access.proofs.Moving.{Ups, up}
use Rattle.bl_whole.proofs.RenamedTemplates.{moved_stack}

-- the numbers of a part and of the whole: how its variables and positions move, and the function whose body this is
pub record Setting : Type 0 where
  pub names : Names
  pub numbers : Renaming
  pub vars : ℕ
  pub commands : ℕ
  pub blocks : BlockType → Counts
  pub blocks_in : BlockType → Counts
  pub shapes : ℕ → Shape
  pub shapes_in : ℕ → Shape
  pub number : ℕ
  pub number_in : ℕ

-- a body by other names
abbrev pub body_by : Names → Body → Body
body_by names done = done
body_by names (step item body) = step (item_by names item) (body_by names body)
body_by names (leave item body) = leave (item_by names item) (body_by names body)
body_by names (block r inner body) = block (renamed_block_type names r) (body_by names inner) (body_by names body)
body_by names (loop r inner body) = loop (renamed_block_type names r) (body_by names inner) (body_by names body)
body_by names (choice r first other second body) =
    choice (renamed_block_type names r) (body_by names first) other (body_by names second) (body_by names body)

-- the items of a body behind which the code goes on, those that open constructs too
abbrev pub AllIn : (Instr → Type 0) → Body → Type 0
AllIn F done = Unit {0}
AllIn F (step item body) = F item × AllIn F body
AllIn F (leave item body) = Unit {0}
AllIn F (block r inner body) = F (Block r) × AllIn F inner × AllIn F body
AllIn F (loop r inner body) = F (Loop r) × AllIn F inner × AllIn F body
AllIn F (choice r first other second body) = F (If r) × AllIn F first × AllIn F second × AllIn F body

abbrev pub slot_to : Names → Slot → Slot
slot_to names (armed f) = armed (names.function f)
slot_to names uninitialized = uninitialized
slot_to names mistyped = mistyped

module _ (s : Setting) where
  abbrev pub mine : Shape
  mine = s.shapes s.number

  abbrev pub theirs : Shape
  theirs = s.shapes_in s.number_in

  -- ---- points and targets

  abbrev pub point_to : Point → Point
  point_to p = point (up s.commands p.position) (moved_stack s.numbers p.stack) (up s.vars p.next)

  abbrev pub reached_to : Reached → Reached
  reached_to (on p) = on (point_to p)
  reached_to (off next) = off (up s.vars next)

  abbrev pub kind_to : Kind → Kind
  kind_to whole = whole
  kind_to (again start params first) = again (up s.commands start) params (up s.vars first)
  kind_to (part second operands) = part (up s.commands second) (moved_stack s.numbers operands)

  abbrev pub target_to : Target → Target
  target_to t = record {
    kind = kind_to t.kind;
    arity = t.arity;
    first = up s.vars t.first;
    end = up s.commands t.end;
    below = moved_stack s.numbers t.below;
  }

  -- ---- what the numbers keep

  -- a function that is called has as many parameters and results
  pub record Alike (f : ℕ) : Type 0 where
    pub params : (s.shapes_in (s.names.function f)).params ≡ (s.shapes f).params
    pub results : (s.shapes_in (s.names.function f)).results ≡ (s.shapes f).results

  abbrev pub AllAlike : List Slot → Type 0
  AllAlike [] = Unit {0}
  AllAlike (armed f ∷ slots) = Alike f × AllAlike slots
  AllAlike (uninitialized ∷ slots) = AllAlike slots
  AllAlike (mistyped ∷ slots) = AllAlike slots

  -- what sizes need of an item
  abbrev pub SizeFits : Instr → Type 0
  SizeFits (Block r) = s.blocks_in (renamed_block_type s.names r) ≡ s.blocks r
  SizeFits (Loop r) = s.blocks_in (renamed_block_type s.names r) ≡ s.blocks r
  SizeFits (If r) = s.blocks_in (renamed_block_type s.names r) ≡ s.blocks r
  SizeFits (Call f) = Alike f
  SizeFits (CallIndirect i) = (theirs.wanted (s.names.type i) ≡ mine.wanted i) × (theirs.slots (s.names.type i) ≡ map (slot_to s.names) (mine.slots i)) × AllAlike (mine.slots i)
  SizeFits item = Unit {0}

  abbrev pub SizeFitsIn : Body → Type 0
  SizeFitsIn body = AllIn SizeFits body

  -- it is called there, and its results are read there
  pub record Leads (f : ℕ) : Type 0 where
    pub alike : Alike f
    pub callee : s.numbers.callee f ≡ s.names.function f
    pub reads : (i : ℕ) → i < (s.shapes f).results → s.numbers.read (result (s.shapes f) i) ≡ result (s.shapes_in (s.names.function f)) i

  abbrev pub AllLead : List Slot → Type 0
  AllLead [] = Unit {0}
  AllLead (armed f ∷ slots) = Leads f × AllLead slots
  AllLead (uninitialized ∷ slots) = AllLead slots
  AllLead (mistyped ∷ slots) = AllLead slots

  -- their results are few enough
  abbrev pub AllFew : ℕ → List Slot → Type 0
  AllFew most [] = Unit {0}
  AllFew most (armed f ∷ slots) = ((s.shapes f).results ≤ most) × AllFew most slots
  AllFew most (uninitialized ∷ slots) = AllFew most slots
  AllFew most (mistyped ∷ slots) = AllFew most slots

  abbrev pub Sees : Type 0
  Sees = (s.numbers.memory mine.memory ≡ theirs.memory) × (s.numbers.read mine.size ≡ theirs.size)

  abbrev pub Fits : Instr → Type 0
  Fits (Block r) = s.blocks_in (renamed_block_type s.names r) ≡ s.blocks r
  Fits (Loop r) = s.blocks_in (renamed_block_type s.names r) ≡ s.blocks r
  Fits (If r) = s.blocks_in (renamed_block_type s.names r) ≡ s.blocks r
  Fits (Call f) = Leads f
  Fits (CallIndirect i) = (theirs.wanted (s.names.type i) ≡ mine.wanted i) × (theirs.slots (s.names.type i) ≡ map (slot_to s.names) (mine.slots i)) × AllLead (mine.slots i) × AllFew (mine.wanted i).results (mine.slots i)
  Fits (LocalGet x) = s.numbers.read (local mine x) ≡ local theirs x
  Fits (LocalSet x) = s.numbers.write (local mine x) ≡ local theirs x
  Fits (LocalTee x) = s.numbers.write (local mine x) ≡ local theirs x
  Fits (GlobalGet x) = s.numbers.read x ≡ s.names.global x
  Fits (GlobalSet x) = s.numbers.write x ≡ s.names.global x
  Fits (Load kind argument) = Sees
  Fits (Store kind argument) = Sees
  Fits MemorySize = s.numbers.read mine.size ≡ theirs.size
  Fits MemoryGrow = (s.numbers.read mine.size ≡ theirs.size) × (s.numbers.write mine.size ≡ theirs.size) × (theirs.reserve ≡ mine.reserve)
  Fits item = Unit {0}

  abbrev pub FitsIn : Body → Type 0
  FitsIn body = AllIn Fits body

  -- the function's own numbers
  pub record Moves : Type 0 where
    pub results : theirs.results ≡ mine.results
    pub writes : Ups s.numbers.write s.vars (bottom mine) mine.limit
    pub reads : Ups s.numbers.read s.vars (bottom mine) mine.limit
    pub goes : (p : ℕ) → 7 ≤ p → s.numbers.position p ≡ up s.commands p
    pub traps : (p : ℕ) → p < 7 → s.numbers.position p ≡ p

  -- a construct whose branches lead behind the traps, and whose variables are the function's own
  pub record Ready (t : Target) : Type 0 where
    pub start : 7 ≤ start_of t.kind t.end
    pub low : bottom mine ≤ first_to t
    pub high : first_to t + taken t ≤ mine.limit

  abbrev pub AllReady : List Target → Type 0
  AllReady [] = Unit {0}
  AllReady (t ∷ open_ones) = Ready t × AllReady open_ones

  abbrev pub ReadyFor : Option Target → Type 0
  ReadyFor None = Unit {0}
  ReadyFor (Some t) = Ready t
