-- Instructions by their immediates, which stand behind their codes (WebAssembly 1.0, section 5.4).
use Rattle.std.specs.Prelude.{◌≡◌, ℕ, ◌≤◌, ◌⊎◌, List}
use Rattle.bl_wasm.specs.Types.{block_type}
use Rattle.bl_leb.specs.Grammar.{Spellings, ◌⨾◌, nothing, byte}
use Rattle.bl_wasm.specs.Values.{u32, int, f32, f64, vec}
use Rattle.bl_wasm.specs.Instructions.{memory_argument}
use Rattle.bl_wasm.specs.declared.instruction.Instr.{Instr}
use Rattle.bl_wasm.specs.declared.instruction.Instr.TheVariants.{Unreachable, Nop, Block, Loop, If, Else, End, Br, BrIf, BrTable, Return, Call, CallIndirect, Drop, Select, LocalGet, LocalSet, LocalTee, GlobalGet, GlobalSet, Load, Store, FloatAccess, MemorySize, MemoryGrow, I32Const, I64Const, F32Const, F64Const, Integer, Float}
use Rattle.bl_wasm.specs.declared.instruction.MemoryArgument.{MemoryArgument}
use Rattle.bl_wasm.specs.declared.types.BlockType.{BlockType}

-- the immediates of an instruction
pub data Shape : Type 0 where
  Bare : Shape
  Typed : BlockType → Shape
  Indexed : ℕ → Shape
  Labels : List ℕ → ℕ → Shape
  Indirect : ℕ → Shape
  Access : MemoryArgument → Shape
  Zero : Shape
  Int32 : ℕ → Shape
  Int64 : ℕ → Shape
  Float32 : ℕ → Shape
  Float64 : ℕ → Shape

-- the immediates that it has
abbrev pub shape_of : Instr → Shape
shape_of Unreachable = Bare
shape_of Nop = Bare
shape_of (Block type) = Typed type
shape_of (Loop type) = Typed type
shape_of (If type) = Typed type
shape_of Else = Bare
shape_of End = Bare
shape_of (Br label) = Indexed label
shape_of (BrIf label) = Indexed label
shape_of (BrTable default labels) = Labels labels default
shape_of Return = Bare
shape_of (Call function) = Indexed function
shape_of (CallIndirect type) = Indirect type
shape_of Drop = Bare
shape_of Select = Bare
shape_of (LocalGet x) = Indexed x
shape_of (LocalSet x) = Indexed x
shape_of (LocalTee x) = Indexed x
shape_of (GlobalGet x) = Indexed x
shape_of (GlobalSet x) = Indexed x
shape_of (Load kind argument) = Access argument
shape_of (Store kind argument) = Access argument
shape_of (FloatAccess kind argument) = Access argument
shape_of MemorySize = Zero
shape_of MemoryGrow = Zero
shape_of (I32Const n) = Int32 n
shape_of (I64Const n) = Int64 n
shape_of (F32Const bits) = Float32 bits
shape_of (F64Const bits) = Float64 bits
shape_of (Integer op) = Bare
shape_of (Float op) = Bare

-- the codes of block, loop and if
abbrev pub IsTypedCode : ℕ → Type 0
IsTypedCode code = (2 ≤ code) × (code ≤ 4)

-- the codes of instructions with one index
abbrev pub IsIndexedCode : ℕ → Type 0
IsIndexedCode code = ((0x0C ≤ code) × (code ≤ 0x0D)) ⊎ (code ≡ 0x10) ⊎ ((0x20 ≤ code) × (code ≤ 0x24))

-- the codes of accesses
abbrev pub IsAccessCode : ℕ → Type 0
IsAccessCode code = (0x28 ≤ code) × (code ≤ 0x3E)

-- the codes of memory.size and memory.grow
abbrev pub IsZeroCode : ℕ → Type 0
IsZeroCode code = (0x3F ≤ code) × (code ≤ 0x40)

-- codes that may be those of instructions without immediates
abbrev pub IsBareCode : ℕ → Type 0
IsBareCode code = (code ≤ 1) ⊎ (code ≡ 5) ⊎ (code ≡ 0x0B) ⊎ (code ≡ 0x0F) ⊎ ((0x1A ≤ code) × (code ≤ 0x1B)) ⊎ (0x45 ≤ code)

-- the codes of no instruction with immediates
abbrev pub IsOtherCode : ℕ → Type 0
IsOtherCode code =
    (code ≤ 1) ⊎ ((5 ≤ code) × (code ≤ 0x0B)) ⊎ (code ≡ 0x0F) ⊎ ((0x12 ≤ code) × (code ≤ 0x1F)) ⊎ ((0x25 ≤ code) × (code ≤ 0x27))
    ⊎ (0x45 ≤ code)

-- the codes of no instruction but numeric ones
abbrev pub IsNumericCode : ℕ → Type 0
IsNumericCode code =
    ((6 ≤ code) × (code ≤ 0x0A)) ⊎ ((0x12 ≤ code) × (code ≤ 0x19)) ⊎ ((0x1C ≤ code) × (code ≤ 0x1F))
    ⊎ ((0x25 ≤ code) × (code ≤ 0x27)) ⊎ (0x45 ≤ code)

-- the codes of instructions with such immediates are among these
abbrev pub IsCodeOf : Shape → ℕ → Type 0
IsCodeOf Bare code = IsBareCode code
IsCodeOf (Typed type) code = IsTypedCode code
IsCodeOf (Indexed index) code = IsIndexedCode code
IsCodeOf (Labels labels default) code = code ≡ 0x0E
IsCodeOf (Indirect type) code = code ≡ 0x11
IsCodeOf (Access argument) code = IsAccessCode code
IsCodeOf Zero code = IsZeroCode code
IsCodeOf (Int32 n) code = code ≡ 0x41
IsCodeOf (Int64 n) code = code ≡ 0x42
IsCodeOf (Float32 bits) code = code ≡ 0x43
IsCodeOf (Float64 bits) code = code ≡ 0x44

-- the spellings of immediates
abbrev pub immediates : Shape → Spellings
immediates Bare = nothing
immediates (Typed type) = block_type type
immediates (Indexed index) = u32 index
immediates (Labels labels default) = vec u32 labels ⨾ u32 default
immediates (Indirect type) = u32 type ⨾ u32 0
immediates (Access argument) = memory_argument argument
immediates Zero = byte 0x00
immediates (Int32 n) = int 32 n
immediates (Int64 n) = int 64 n
immediates (Float32 bits) = f32 bits
immediates (Float64 bits) = f64 bits
