-- The typing of sequences in the standard's own form (WebAssembly 2.0, sections 3.3.8 and 3.3.9): each construct has sequences
-- of its own.
use Rattle.std.specs.Prelude.{◌≡◌, ◌++◌, List, [], ◌∷◌, Some}
use Rattle.std.specs.List.{All}
use Rattle.bl_wasm.specs.Instructions.{IsPlain}
use Rattle.bl_wasm.specs.OpenConstructs.{Kind, then_part}
use Rattle.bl_wasm.specs.Typing.{Context, Plain, expanded, taken_by}
use Rattle.bl_wasm.specs.declared.instruction.Instr.{Instr}
use Rattle.bl_wasm.specs.declared.instruction.Instr.TheVariants.{Block, Loop, If, Else, End}
use Rattle.bl_wasm.specs.declared.types.BlockType.{BlockType}
use Rattle.bl_wasm.specs.declared.types.FuncType.{FuncType}
use Rattle.bl_wasm.specs.declared.types.WasmType.{WasmType}
use Rattle.bl_wasm.specs.declared.types.WasmType.TheVariants.{I32}

-- under labels, items go from operands of some types to operands of others
pub data Sequence (c : Context) : List (List WasmType) → List Instr → List WasmType → List WasmType → Type 0 where
  none : {ls : List (List WasmType)} {from : List WasmType} → Sequence c ls [] from from
  plain : {ls : List (List WasmType)} {items : List Instr} {from middle to : List WasmType} (item : Instr)
      → IsPlain item → Plain c ls item from middle → Sequence c ls items middle to → Sequence c ls (item ∷ items) from to
  -- block bt in* end: inside, a branch to it takes its results
  block : {ls : List (List WasmType)} {to : List WasmType} (immediate : BlockType) (type : FuncType) (lower : List WasmType)
      (inside more : List Instr) → expanded c.types immediate ≡ Some type
      → Sequence c (type.results ∷ ls) inside type.params type.results → Sequence c ls more (lower ++ type.results) to
      → Sequence c ls (Block immediate ∷ inside ++ End ∷ more) (lower ++ (type.params ++ [])) to
  -- loop bt in* end: inside, a branch to it takes its parameters
  loop : {ls : List (List WasmType)} {to : List WasmType} (immediate : BlockType) (type : FuncType) (lower : List WasmType)
      (inside more : List Instr) → expanded c.types immediate ≡ Some type
      → Sequence c (type.params ∷ ls) inside type.params type.results → Sequence c ls more (lower ++ type.results) to
      → Sequence c ls (Loop immediate ∷ inside ++ End ∷ more) (lower ++ (type.params ++ [])) to
  -- if bt in* end: its parameters are its results
  if_then : {ls : List (List WasmType)} {to : List WasmType} (immediate : BlockType) (type : FuncType) (lower : List WasmType)
      (inside more : List Instr) → expanded c.types immediate ≡ Some type → type.params ≡ type.results
      → Sequence c (type.results ∷ ls) inside type.params type.results → Sequence c ls more (lower ++ type.results) to
      → Sequence c ls (If immediate ∷ inside ++ End ∷ more) (lower ++ (type.params ++ I32 ∷ [])) to
  -- if bt in* else in* end: both parts go from the parameters to the results
  if_else : {ls : List (List WasmType)} {to : List WasmType} (immediate : BlockType) (type : FuncType) (lower : List WasmType)
      (first second more : List Instr) → expanded c.types immediate ≡ Some type
      → Sequence c (type.results ∷ ls) first type.params type.results
      → Sequence c (type.results ∷ ls) second type.params type.results → Sequence c ls more (lower ++ type.results) to
      → Sequence c ls (If immediate ∷ first ++ Else ∷ second ++ End ∷ more) (lower ++ (type.params ++ I32 ∷ [])) to

-- a construct of a sequence, with what is above its parameters: its parts are sequences under its label from its parameters to
-- its results, and what is behind it goes on from the results; an if with `else` is of the kind of its else part
pub record IsConstruct (c : Context) (ls : List (List WasmType)) (kind : Kind) (immediate : BlockType) (above : List WasmType)
    (parts : List (List Instr)) (more : List Instr) (from to : List WasmType) : Type 0 where
  pub type : FuncType
  pub lower : List WasmType
  pub named : expanded c.types immediate ≡ Some type
  pub before : from ≡ lower ++ (type.params ++ above)
  pub missing : kind ≡ then_part → type.params ≡ type.results
  pub inside : All (λ part. Sequence c (taken_by kind type ∷ ls) part type.params type.results) parts
  pub later : Sequence c ls more (lower ++ type.results) to
