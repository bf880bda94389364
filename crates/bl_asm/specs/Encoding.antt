-- The bytes of each instruction, as the encoder writes them. See the Intel 64 and IA-32 Architectures Software Developer's Manual, volume 2,
-- chapter 2, and the opcode column of each instruction's page. The form is [prefix] [REX] opcode [ModRM [SIB displacement]] [immediate]. Of the encodings
-- that the manual allows, this one is chosen:
-- - Every instruction except JMP, Jcc, CALL, RET and LFENCE has a REX byte, even if its bits are 0. So a register of 8 bits is always the lowest byte of its
--   register, and never AH, CH, DH or BH.
-- - Memory is always named by a SIB byte and 4 bytes of displacement (mod 2, r/m 4).
-- - Operations read their second operand from r/m (opcodes 03, 0B, 23, 2B, 33, 3B and 8B), not from reg. TEST has its second operand in reg.
-- - MOV of a number has 4 bytes if they suffice, and 8 otherwise. Jumps and calls have 4 bytes. RET is C3.
use Rattle.std.specs.Prelude.{ℕ, ◌+◌, ◌*◌, ◌/◌, ◌%◌, ◌^◌, Bool, true, false, nat_lt, if◌then◌else◌, List, [], ◌∷◌, ◌++◌, Option, Some, None}
use Rattle.bl_base.specs.Bytes.{bytes_of}
use Rattle.bl_x64.specs.Registers.{code_of}
use Rattle.bl_x64.specs.declared.register.Register.{Register}
use Rattle.bl_x64.specs.declared.instruction.Size.{Size}
use Rattle.bl_x64.specs.declared.instruction.Size.TheVariants.{Long, Quad}
use Rattle.bl_x64.specs.declared.instruction.Width.{Width}
use Rattle.bl_x64.specs.declared.instruction.Width.TheVariants as width
use Rattle.bl_x64.specs.declared.instruction.Alu.{Alu as Operation}
use Rattle.bl_x64.specs.declared.instruction.Alu.TheVariants.{Add, Or, And, Sub, Xor, Cmp}
use Rattle.bl_x64.specs.declared.instruction.Rotation.{Rotation}
use Rattle.bl_x64.specs.declared.instruction.Rotation.TheVariants.{Rol, Ror, Shl, Shr, Sar}
use Rattle.bl_x64.specs.declared.instruction.Count.{Count as Counting}
use Rattle.bl_x64.specs.declared.instruction.Count.TheVariants.{Lzcnt, Tzcnt, Popcnt}
use Rattle.bl_x64.specs.declared.instruction.Extension.{Extension}
use Rattle.bl_x64.specs.declared.instruction.Extension.TheVariants.{Zero8, Zero16, Sign8, Sign16, Sign32}
use Rattle.bl_x64.specs.declared.instruction.Condition.{Condition}
use Rattle.bl_x64.specs.declared.instruction.Condition.TheVariants.{Below, AboveOrEqual, Equal, NotEqual, BelowOrEqual, Above, Less, GreaterOrEqual, LessOrEqual, Greater}
use Rattle.bl_x64.specs.declared.instruction.Address.{Address}
use Rattle.bl_x64.specs.declared.instruction.Place.{Place}
use Rattle.bl_x64.specs.declared.instruction.Place.TheVariants.{Register as InRegister, Memory as InMemory}
use Rattle.bl_x64.specs.declared.instruction.Instruction.{Instruction}
use Rattle.bl_x64.specs.declared.instruction.Instruction.TheVariants.{Mov, Store, Constant, Extend, Alu, Test, Imul, Rotate, Count, SetIf, MoveIf, FillSign, Divide, Lfence, Jump, JumpIf, Call, Ret}

-- ---- fields of bytes

-- REX.W (section 2.2.1.2)
abbrev pub wide : Size → ℕ
wide Long = 0
wide Quad = 1

-- the number of a condition (volume 1, appendix B)
abbrev pub condition_code : Condition → ℕ
condition_code Below = 2
condition_code AboveOrEqual = 3
condition_code Equal = 4
condition_code NotEqual = 5
condition_code BelowOrEqual = 6
condition_code Above = 7
condition_code Less = 12
condition_code GreaterOrEqual = 13
condition_code LessOrEqual = 14
condition_code Greater = 15

-- the opcode of an operation of two numbers, in the form r, r/m
abbrev pub alu_opcode : Operation → ℕ
alu_opcode Add = 0x03
alu_opcode Or = 0x0B
alu_opcode And = 0x23
alu_opcode Sub = 0x2B
alu_opcode Xor = 0x33
alu_opcode Cmp = 0x3B

-- the field reg of a shift or a rotation, after the opcode D3
abbrev pub rotation_code : Rotation → ℕ
rotation_code Rol = 0
rotation_code Ror = 1
rotation_code Shl = 4
rotation_code Shr = 5
rotation_code Sar = 7

-- the opcode of a count of bits, after the prefix F3 and the byte 0F
abbrev pub count_opcode : Counting → ℕ
count_opcode Popcnt = 0xB8
count_opcode Tzcnt = 0xBC
count_opcode Lzcnt = 0xBD

-- the opcode of an extension
abbrev pub extension_opcode : Extension → List ℕ
extension_opcode Zero8 = 0x0F ∷ 0xB6 ∷ []
extension_opcode Zero16 = 0x0F ∷ 0xB7 ∷ []
extension_opcode Sign8 = 0x0F ∷ 0xBE ∷ []
extension_opcode Sign16 = 0x0F ∷ 0xBF ∷ []
extension_opcode Sign32 = 0x63 ∷ []

-- ---- operands

-- the number of an index; 4 if there is none (table 2-3)
abbrev pub index_code : Option Register → ℕ
index_code None = 4
index_code (Some r) = code_of r

-- REX.X and REX.B of a place
abbrev pub index_bit : Place → ℕ
index_bit (InRegister r) = 0
index_bit (InMemory a) = index_code a.index / 8

abbrev pub base_bit : Place → ℕ
base_bit (InRegister r) = code_of r / 8
base_bit (InMemory a) = code_of a.base / 8

-- the REX byte of the bits W, R, X and B (table 2-4)
abbrev pub rex_byte : ℕ → ℕ → ℕ → ℕ → ℕ
rex_byte w r x b = 64 + 8 * w + 4 * r + 2 * x + b

-- the ModRM byte with a field reg and a place, then for memory the SIB byte and the displacement (tables 2-2 and 2-3)
abbrev pub operand_bytes : ℕ → Place → List ℕ
operand_bytes field (InRegister r) = (192 + 8 * field + code_of r % 8) ∷ []
operand_bytes field (InMemory a) =
    (132 + 8 * field) ∷ (8 * (index_code a.index % 8) + code_of a.base % 8) ∷ bytes_of 4 a.displacement

-- an instruction with an opcode of one byte, a number of 4 bits in REX.R and reg, and a place
abbrev pub one : ℕ → ℕ → ℕ → Place → List ℕ
one opcode w reg place = rex_byte w (reg / 8) (index_bit place) (base_bit place) ∷ opcode ∷ operand_bytes (reg % 8) place

-- the same with an opcode of two bytes, of which the first is 0F
abbrev pub two : ℕ → ℕ → ℕ → Place → List ℕ
two opcode w reg place = rex_byte w (reg / 8) (index_bit place) (base_bit place) ∷ 0x0F ∷ opcode ∷ operand_bytes (reg % 8) place

-- the same with an opcode that is given as a list
abbrev pub of_bytes : List ℕ → ℕ → ℕ → Place → List ℕ
of_bytes opcode w reg place = rex_byte w (reg / 8) (index_bit place) (base_bit place) ∷ (opcode ++ operand_bytes (reg % 8) place)

-- ---- instructions

-- MOV to memory; the prefix 66 makes it 2 bytes wide
abbrev pub store_bytes : Width → ℕ → Place → List ℕ
store_bytes width.Byte reg place = one 0x88 0 reg place
store_bytes width.Word reg place = 0x66 ∷ one 0x89 0 reg place
store_bytes width.Long reg place = one 0x89 0 reg place
store_bytes width.Quad reg place = one 0x89 1 reg place

-- MOV of a number to a register; the test says whether 4 bytes suffice, which the processor extends by zeros
abbrev pub constant_bytes : Bool → ℕ → ℕ → List ℕ
constant_bytes true reg value = rex_byte 0 0 0 (reg / 8) ∷ (184 + reg % 8) ∷ bytes_of 4 value
constant_bytes false reg value = rex_byte 1 0 0 (reg / 8) ∷ (184 + reg % 8) ∷ bytes_of 8 value

-- the shorter of the two forms
abbrev pub encoded_constant : ℕ → ℕ → List ℕ
encoded_constant reg value = constant_bytes (nat_lt value (2 ^ 32)) reg value

-- the field reg of DIV and of IDIV, after the opcode F7
abbrev pub division_code : Bool → ℕ
division_code false = 6
division_code true = 7

-- the bytes of an instruction
abbrev pub encoded : Instruction → List ℕ
encoded (Mov size to from) = one 0x8B (wide size) (code_of to) from
encoded (Store width to from) = store_bytes width (code_of from) (InMemory to)
encoded (Constant to value) = encoded_constant (code_of to) value
encoded (Extend how size to from) = of_bytes (extension_opcode how) (wide size) (code_of to) from
encoded (Alu op size to from) = one (alu_opcode op) (wide size) (code_of to) from
encoded (Test size first second) = one 0x85 (wide size) (code_of second) (InRegister first)
encoded (Imul size to from) = two 0xAF (wide size) (code_of to) from
encoded (Rotate op size to) = one 0xD3 (wide size) (rotation_code op) (InRegister to)
encoded (Count op size to from) = 0xF3 ∷ two (count_opcode op) (wide size) (code_of to) from
encoded (SetIf condition to) = two (144 + condition_code condition) 0 0 (InRegister to)
encoded (MoveIf condition size to from) = two (64 + condition_code condition) (wide size) (code_of to) from
encoded (FillSign size) = rex_byte (wide size) 0 0 0 ∷ 0x99 ∷ []
encoded (Divide sign size divisor) = one 0xF7 (wide size) (division_code sign) (InRegister divisor)
encoded Lfence = 0x0F ∷ 0xAE ∷ 0xE8 ∷ []
encoded (Jump to) = 0xE9 ∷ bytes_of 4 to
encoded (JumpIf condition to) = 0x0F ∷ (128 + condition_code condition) ∷ bytes_of 4 to
encoded (Call to) = 0xE8 ∷ bytes_of 4 to
encoded Ret = 0xC3 ∷ []
