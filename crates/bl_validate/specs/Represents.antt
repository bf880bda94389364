-- What the validator's stacks represent: the constructs that may be open at a place, and the operands' types there.
use Rattle.std.specs.Prelude.{◌≡◌, ◌↔◌, ◌++◌, List, [], ◌∷◌, reverse, map, Bool, IsTrue}
use Rattle.bl_wasm.specs.OpenConstructs as nesting
use Rattle.bl_wasm.specs.Typing.{Open, Context, Rule, Begins, taken_by}
use Rattle.bl_wasm.specs.declared.instruction.Instr.{Instr}
use Rattle.bl_wasm.specs.declared.types.BlockType.{BlockType}
use Rattle.bl_wasm.specs.declared.types.FuncType.{FuncType}
use Rattle.bl_wasm.specs.declared.types.WasmType.{WasmType}
use Rattle.bl_validate.specs.MayStand.{MayStand}
use Rattle.bl_validate.specs.declared.stacks.Kind.{Kind}
use Rattle.bl_validate.specs.declared.stacks.Kind.TheVariants.{Block, Loop, ThenPart, ElsePart}
use Rattle.bl_validate.specs.declared.stacks.Construct.{Construct}
use Rattle.bl_validate.specs.declared.stacks.Frame.{Frame}
use Rattle.bl_validate.specs.declared.stacks.Stacks.{Stacks}

-- the kind of a construct
abbrev pub nesting_kind : Kind → nesting.Kind
nesting_kind Block = nesting.of_block
nesting_kind Loop = nesting.of_loop
nesting_kind ThenPart = nesting.then_part
nesting_kind ElsePart = nesting.else_part

-- its parameters and results
abbrev pub construct_type : Construct → FuncType
construct_type construct = record { params = construct.params.now; results = construct.results.now }

-- that construct is open
pub record IsOpen (construct : Construct) (one : Open) : Type 0 where
  pub kind : one.kind ≡ nesting_kind construct.kind
  pub type : one.type ≡ construct_type construct

-- the open constructs, innermost first, with operands that may stand below each
abbrev pub AreOpen : List Frame → List Open → Type 0
AreOpen [] [] = Unit {0}
AreOpen [] (one ∷ outer) = ⊥
AreOpen (frame ∷ frames) [] = ⊥
AreOpen (frame ∷ frames) (one ∷ outer) = IsOpen frame.construct one × MayStand frame.below one.lower × AreOpen frames outer

-- what is open, and the operands' types in the innermost construct
unfoldable pub Represents : Stacks → List Open → List WasmType → Type 0
Represents stacks open_ones s = MayStand stacks.operands s × AreOpen (reverse stacks.frames.items) open_ones

-- the labels of the place, innermost first, each by what a branch to it takes; the outermost takes the results
abbrev pub labels_in : List WasmType → Stacks → List (List WasmType)
labels_in results stacks =
    map (λ frame. taken_by (nesting_kind frame.construct.kind) (construct_type frame.construct))
    (reverse stacks.frames.items) ++ results ∷ []

-- a step over an item: what is represented behind it is exactly what its rule gives of what is represented before it
abbrev pub Steps : Context → Instr → Stacks → Bool → Stacks → Type 0
Steps c item old ok new = (behind : List Open) (to : List WasmType) →
    (IsTrue ok × Represents new behind to)
    ↔ ((open_ones : List Open) × (from : List WasmType) × Rule c item open_ones from behind to × Represents old open_ones from)

-- the same of a construct that begins below operands of the types `above`
abbrev pub Opens : Context → Kind → BlockType → List WasmType → Stacks → Bool → Stacks → Type 0
Opens c kind immediate above old ok new = (behind : List Open) (to : List WasmType) →
    (IsTrue ok × Represents new behind to)
    ↔ ((open_ones : List Open) × (from : List WasmType)
    × Begins c (nesting_kind kind) immediate above open_ones from behind to × Represents old open_ones from)
