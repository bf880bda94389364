-- What is open at a place of a typed body: the same by nesting and by its typing (WebAssembly 1.0, sections 2.4.5 and 3.1.1).
use Rattle.std.specs.Prelude.{◌≡◌, ℕ, List, drop, Some}
use Rattle.std.specs.List.{AllZip}
use Rattle.bl_wasm.specs.OpenConstructs.{Construct, open_at}
use Rattle.bl_wasm.specs.Typing.{Context, Open, Types, expanded}
use Rattle.bl_wasm.specs.declared.instruction.Instr.{Instr}
use Rattle.bl_wasm.specs.declared.types.WasmType.{WasmType}

-- a construct as a typing has it open: of its kind, and with the type that its block type stands for
pub record IsOpenAs (c : Context) (construct : Construct) (one : Open) : Type 0 where
  pub kind : construct.kind ≡ one.kind
  pub type : expanded c.types construct.type ≡ Some one.type

abbrev pub AreOpenAs : Context → List Construct → List Open → Type 0
AreOpenAs c constructs open_ones = AllZip (IsOpenAs c) constructs open_ones

-- the constructs that are open at a place, and that the rest of the typing has open
pub record IsOpenAt (c : Context) (body : List Instr) (places : List (List WasmType)) (place : ℕ) : Type 0 where
  pub constructs : List Construct
  pub open_ones : List Open
  pub nested : open_at body place ≡ Some constructs
  pub same : AreOpenAs c constructs open_ones
  pub typed : Types c open_ones (drop place body) (drop place places)
