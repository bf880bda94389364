-- Block types, typings, reached places and new names on worked bodies.
use Rattle.std.proofs.Common.{◌≡◌, ◌+◌, true, false, List, [], ◌∷◌, map, Option, Some, None, inl, inr, refl, sym, ap, arith}
use Rattle.std.proofs.lemmas.Int.{ints}
use Rattle.std.specs.Prelude.{ℤ, pos, ◌*ℤ◌, ◌+ℤ◌}
use Rattle.bl_base.proofs.Lists.{first_same}
use Rattle.bl_leb.specs.Numbers.{IsSigned}
use Rattle.bl_ops.specs.declared.op.Op.TheVariants.{I32Add}
use Rattle.bl_wasm.specs.OpenConstructs.{of_block, else_part, open_at, construct}
use Rattle.bl_wasm.specs.Reached.{is_reached}
use Rattle.bl_wasm.specs.IndexMaps.{Names, renamed}
use Rattle.bl_wasm.specs.Sequences.{Sequence}
use Rattle.bl_wasm.specs.Types.{block_type}
use Rattle.bl_wasm.specs.Typing.{Context, IsTyping, labels}
use Rattle.bl_wasm.specs.Instructions.{none, plain}
use Rattle.bl_wasm.specs.declared.instruction.Instr.{Instr}
use Rattle.bl_wasm.specs.declared.instruction.Instr.TheVariants.{Unreachable, Nop, Block, If, Else, End, Br, Call, CallIndirect, GlobalGet, I32Const, Integer}
use Rattle.bl_wasm.specs.declared.types.BlockType.{BlockType}
use Rattle.bl_wasm.specs.declared.types.BlockType.TheVariants.{Empty, Value, Index}
use Rattle.bl_wasm.specs.declared.types.FuncType.{FuncType}
use Rattle.bl_wasm.specs.declared.types.WasmType.{WasmType}
use Rattle.bl_wasm.specs.declared.types.WasmType.TheVariants.{I32, I64, F32, F64}
use Rattle.bl_wasm.proofs.SequenceLemmas.{if_made}

-- ---- block types

index_one : block_type (Index 1) (0x01 ∷ [])
index_one = inl (omega arith, omega arith, refl)

-- a longer spelling of the same index
long_one : block_type (Index 1) (0x81 ∷ 0x80 ∷ 0x80 ∷ 0x80 ∷ 0x00 ∷ [])
long_one = (
  omega arith,
  omega arith,
  omega arith,
  pos 0,
  (
    omega arith,
    omega arith,
    omega arith,
    pos 0,
    (
      omega arith,
      omega arith,
      omega arith,
      pos 0,
      (omega arith, omega arith, omega arith, pos 0, inl (omega arith, omega arith, refl), refl),
      refl,
    ),
    refl,
  ),
  refl,
)

-- -63 is none
negative : (type : BlockType) → block_type type (0x41 ∷ []) → ⊥
negative Empty h = absurd (omega (arith, first_same 0x41 0x40 [] [] h))
negative (Value I32) h = absurd (omega (arith, first_same 0x41 0x7F [] [] h))
negative (Value I64) h = absurd (omega (arith, first_same 0x41 0x7E [] [] h))
negative (Value F32) h = absurd (omega (arith, first_same 0x41 0x7D [] [] h))
negative (Value F64) h = absurd (omega (arith, first_same 0x41 0x7C [] [] h))
negative (Index index) (inl h) = absurd (omega (arith, h.0))
negative (Index index) (inr h) = absurd (omega (arith, ints, h.3))

-- a longer spelling of -64 is none either, though 40 is the block type of nothing
long_empty : (type : BlockType) → block_type type (0xC0 ∷ 0x7F ∷ []) → ⊥
long_empty Empty h = absurd (omega (arith, first_same 0xC0 0x40 (0x7F ∷ []) [] h))
long_empty (Value I32) h = absurd (omega (arith, first_same 0xC0 0x7F (0x7F ∷ []) [] h))
long_empty (Value I64) h = absurd (omega (arith, first_same 0xC0 0x7E (0x7F ∷ []) [] h))
long_empty (Value F32) h = absurd (omega (arith, first_same 0xC0 0x7D (0x7F ∷ []) [] h))
long_empty (Value F64) h = absurd (omega (arith, first_same 0xC0 0x7C (0x7F ∷ []) [] h))
long_empty (Index index) h = last h.3 h.4 h.5
  where
    last : (m : ℤ) → IsSigned 26 (0x7F ∷ []) m → pos index ≡ pos 128 *ℤ m +ℤ pos 64 → ⊥
    last m (inl h) e = omega (arith, h.0)
    last m (inr h) e = omega (arith, ints, h.3, e)

-- ---- what is open

-- block, if, else: inside the else part
in_else : open_at (Block Empty ∷ If (Value I32) ∷ Nop ∷ Else ∷ Nop ∷ End ∷ End ∷ []) 4 ≡ Some (construct else_part (Value I32) ∷ construct of_block Empty ∷ [])
in_else = refl

-- ---- reached places

abbrev branches : List Instr
branches = Block Empty ∷ Br 0 ∷ Nop ∷ End ∷ Nop ∷ []

before_branch : is_reached branches 1 ≡ true
before_branch = refl

behind_branch : is_reached branches 2 ≡ false
behind_branch = refl

behind_end : is_reached branches 4 ≡ true
behind_end = refl

-- the else part can be reached where the if can
else_reached : is_reached (If Empty ∷ Unreachable ∷ Nop ∷ Else ∷ Nop ∷ End ∷ []) 4 ≡ true
else_reached = refl

-- nothing in a construct that can't be reached
inside_unreached : is_reached (Unreachable ∷ Block Empty ∷ Nop ∷ End ∷ Nop ∷ []) 2 ≡ false
inside_unreached = refl

-- ---- typings

module _ (types : List FuncType) where
  abbrev to_i32 : Context
  to_i32 = record { types = types; functions = []; globals = []; tables = 0; memories = 0; locals = []; results = I32 ∷ [] }

  -- behind unreachable there are any operands
  free : IsTyping to_i32 (Unreachable ∷ Integer I32Add ∷ []) ([] ∷ (I32 ∷ I32 ∷ []) ∷ (I32 ∷ []) ∷ [])
  free = (
    refl,
    (
      [],
      record { inside = refl; rule = record { lower = []; before = refl } },
      ([], record { inside = refl; rule = (_, refl, record { lower = []; before = refl; behind = refl }) }, (refl, refl)),
    ),
  )

  -- an if that leaves a value has an else part
  half : (to : List WasmType) → Sequence to_i32 (labels to_i32 []) (If (Value I32) ∷ I32Const 1 ∷ End ∷ []) (I32 ∷ []) to → ⊥
  half to s =
      let made = if_made to_i32 [] (Value I32) (I32Const 1 ∷ []) [] (I32 ∷ []) to (plain (I32Const 1) [] tt none) none s in
      let same : made.type.params ≡ made.type.results = made.missing refl in
      let params : made.type.params ≡ [] = ap (λ o. params_of o) (sym made.named) in
      let results : made.type.results ≡ I32 ∷ [] = ap (λ o. results_of o) (sym made.named) in
      absurd (cc (params, results, same))
    where
      params_of : Option FuncType → List WasmType
      params_of None = []
      params_of (Some type) = type.params

      results_of : Option FuncType → List WasmType
      results_of None = []
      results_of (Some type) = type.results

-- ---- new names

abbrev shifted : Names
shifted = record { type = λ index. index + 3; function = λ index. index + 5; global = λ index. index + 7 }

renamed_items : map (renamed shifted) (Block (Index 0) ∷ Call 1 ∷ CallIndirect 2 ∷ GlobalGet 0 ∷ If Empty ∷ Br 1 ∷ End ∷ End ∷ [])
    ≡ Block (Index 3) ∷ Call 6 ∷ CallIndirect 5 ∷ GlobalGet 7 ∷ If Empty ∷ Br 1 ∷ End ∷ End ∷ []
renamed_items = refl
