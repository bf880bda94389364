-- The instruction that bytes begin with, and the bytes after it; None if they begin with no instruction of this crate. This definition is written
-- from the Intel 64 and IA-32 Architectures Software Developer's Manual, volume 2, chapter 2, and the opcode maps of appendix A. It does not use the
-- encoder; the law `decoding_returns` connects them. It reads fewer encodings than a processor does, and answers None for all others, which leaves
-- the machine without a step. It reads:
-- - at most one of the prefixes 66 and F3, then at most one REX byte, which may be absent;
-- - opcodes of one byte, and of two bytes with 0F first, that the tables below list;
-- - registers as operands (mod 3), and memory by a SIB byte with scale 1 and 4 bytes of displacement (mod 2, r/m 4);
-- - LFENCE only as 0F AE E8.
-- Differences from the manual are only of this kind: it never reads bytes as another instruction than the manual does.
use Rattle.std.specs.Prelude.{ℕ, ◌+◌, ◌*◌, ◌/◌, ◌%◌, ◌==◌, ◌&&◌, ◌||◌, Bool, true, false, nat_lt, if◌then◌else◌, List, [], ◌∷◌, length, take, drop, slice_index_or, Option, Some, None}
use Rattle.bl_base.specs.Bytes.{number_of}
use Rattle.bl_x64.specs.Registers.{code_of}
use Rattle.bl_x64.specs.declared.register.Register.{Register}
use Rattle.bl_x64.specs.declared.register.Register.TheVariants.{Rax, Rcx, Rdx, Rbx, Rsp, Rbp, Rsi, Rdi, R8, R9, R10, R11, R12, R13, R14, R15}
use Rattle.bl_x64.specs.declared.instruction.Size.{Size}
use Rattle.bl_x64.specs.declared.instruction.Size.TheVariants.{Long, Quad}
use Rattle.bl_x64.specs.declared.instruction.Width.{Width}
use Rattle.bl_x64.specs.declared.instruction.Width.TheVariants as width
use Rattle.bl_x64.specs.declared.instruction.Alu.{Alu as Operation}
use Rattle.bl_x64.specs.declared.instruction.Alu.TheVariants.{Add, Or, And, Sub, Xor, Cmp}
use Rattle.bl_x64.specs.declared.instruction.Rotation.{Rotation}
use Rattle.bl_x64.specs.declared.instruction.Rotation.TheVariants.{Rol, Ror, Shl, Shr, Sar}
use Rattle.bl_x64.specs.declared.instruction.Count.{Count as Counting}
use Rattle.bl_x64.specs.declared.instruction.Count.TheVariants.{Lzcnt, Tzcnt, Popcnt}
use Rattle.bl_x64.specs.declared.instruction.Extension.{Extension}
use Rattle.bl_x64.specs.declared.instruction.Extension.TheVariants.{Zero8, Zero16, Sign8, Sign16, Sign32}
use Rattle.bl_x64.specs.declared.instruction.Condition.{Condition}
use Rattle.bl_x64.specs.declared.instruction.Condition.TheVariants.{Below, AboveOrEqual, Equal, NotEqual, BelowOrEqual, Above, Less, GreaterOrEqual, LessOrEqual, Greater}
use Rattle.bl_x64.specs.declared.instruction.Address.{Address}
use Rattle.bl_x64.specs.declared.instruction.Place.{Place}
use Rattle.bl_x64.specs.declared.instruction.Place.TheVariants.{Register as InRegister, Memory as InMemory}
use Rattle.bl_x64.specs.declared.instruction.Instruction.{Instruction}
use Rattle.bl_x64.specs.declared.instruction.Instruction.TheVariants.{Mov, Store, Constant, Extend, Alu, Test, Imul, Rotate, Count, SetIf, MoveIf, FillSign, Divide, Lfence, Jump, JumpIf, Call, Ret}

-- an instruction and the bytes after it
abbrev pub Decoded : Type 0
Decoded = Option (Instruction × List ℕ)

-- ---- prefixes

-- the prefix before REX: none, 66 or F3
pub data Prefix : Type 0 where
  Plain : Prefix
  Word : Prefix
  Repeat : Prefix

-- the bits of the REX byte, all 0 if there is none
pub record Rex : Type 0 where
  pub present : Bool
  pub w : ℕ
  pub r : ℕ
  pub x : ℕ
  pub b : ℕ

-- no REX byte
abbrev pub no_rex : Rex
no_rex = record { present = false; w = 0; r = 0; x = 0; b = 0 }

-- the bits of a REX byte (section 2.2.1.2, table 2-4)
abbrev pub rex_of : ℕ → Rex
rex_of byte = record { present = true; w = byte / 8 % 2; r = byte / 4 % 2; x = byte / 2 % 2; b = byte % 2 }

-- the size of operands by REX.W
abbrev pub size_of : ℕ → Size
size_of w = if w == 0 then Long else Quad

-- ---- registers and conditions by their numbers

-- table 3-1
abbrev pub registers : List Register
registers = Rax ∷ Rcx ∷ Rdx ∷ Rbx ∷ Rsp ∷ Rbp ∷ Rsi ∷ Rdi ∷ R8 ∷ R9 ∷ R10 ∷ R11 ∷ R12 ∷ R13 ∷ R14 ∷ R15 ∷ []

-- the register of a bit of REX and a field of three bits
abbrev pub register_of : ℕ → ℕ → Register
register_of bit field = slice_index_or registers (8 * bit + field) Rax

-- the index of a SIB byte; number 4 means that there is none (table 2-3)
abbrev pub index_of : ℕ → ℕ → Option Register
index_of bit field = if (8 * bit + field) == 4 then None else Some (register_of bit field)

-- the conditions in the order of their numbers (volume 1, appendix B); this crate has no O, NO, S, NS, P and NP
abbrev pub conditions : List (Option Condition)
conditions =
    None ∷ None ∷ Some Below ∷ Some AboveOrEqual ∷ Some Equal ∷ Some NotEqual ∷ Some BelowOrEqual ∷ Some Above
    ∷ None ∷ None ∷ None ∷ None ∷ Some Less ∷ Some GreaterOrEqual ∷ Some LessOrEqual ∷ Some Greater ∷ []

-- the condition of a number
abbrev pub condition_of : ℕ → Option Condition
condition_of number = slice_index_or conditions number None

-- whether the number of a register of 8 bits means its lowest byte: without REX the numbers 4 to 7 are AH, CH, DH and BH (table 3-1)
abbrev pub has_low_byte : Rex → Register → Bool
has_low_byte rex r = rex.present || nat_lt (code_of r) 4

-- the same for a place; memory always has a lowest byte
abbrev pub has_low_byte_at : Rex → Place → Bool
has_low_byte_at rex (InRegister r) = has_low_byte rex r
has_low_byte_at rex (InMemory a) = true

-- ---- immediates and operands

-- reads a number of `count` bytes, little endian, and goes on with it and the bytes after it
abbrev pub immediate : ℕ → List ℕ → (ℕ → List ℕ → Decoded) → Decoded
immediate count bytes f = if nat_lt (length bytes) count then None else f (number_of (take count bytes)) (drop count bytes)

-- reads a SIB byte with scale 1 and a displacement of 4 bytes (table 2-3, with mod 2)
abbrev pub with_sib : Rex → ℕ → List ℕ → (ℕ → Place → List ℕ → Decoded) → Decoded
with_sib rex field [] f = None
with_sib rex field (sib ∷ bytes) f =
    if sib / 64 == 0
    then immediate 4 bytes (λ number rest.
    f field (InMemory (record { base = register_of rex.b (sib % 8); index = index_of rex.x (sib / 8 % 8); displacement = number })) rest)
    else None

-- reads ModRM, and goes on with its field reg, the place that it names, and the bytes after it (table 2-2). Mod 3 names a register, and mod 2
-- with r/m 4 a SIB byte and 4 bytes
abbrev pub operands : Rex → List ℕ → (ℕ → Place → List ℕ → Decoded) → Decoded
operands rex [] f = None
operands rex (modrm ∷ bytes) f =
    if modrm / 64 == 3 then f (modrm / 8 % 8) (InRegister (register_of rex.b (modrm % 8))) bytes
    else (if modrm / 64 == 2 && modrm % 8 == 4 then with_sib rex (modrm / 8 % 8) bytes f else None)

-- ---- opcodes (appendix A)

-- the meaning of an opcode, which says how to read the bytes after it
pub data Form : Type 0 where
  alu : Operation → Form
  move_wide : Form
  test : Form
  store_byte : Form
  store : Form
  store_word : Form
  move : Form
  fill_sign : Form
  constant : ℕ → Form
  rotate : Form
  group_3 : Form
  jump : Form
  call : Form
  ret : Form
  fence : Form
  imul : Form
  extend : Extension → Form
  count : Counting → Form
  set_if : ℕ → Form
  move_if : ℕ → Form
  jump_if : ℕ → Form
  other : Form

-- opcodes of one byte (table A-2)
abbrev pub plain_form : ℕ → Form
plain_form byte =
    if byte == 0x03 then alu Add
    else (if byte == 0x0B then alu Or
    else (if byte == 0x23 then alu And
    else (if byte == 0x2B then alu Sub
    else (if byte == 0x33 then alu Xor
    else (if byte == 0x3B then alu Cmp
    else (if byte == 0x63 then move_wide
    else (if byte == 0x85 then test
    else (if byte == 0x88 then store_byte
    else (if byte == 0x89 then store
    else (if byte == 0x8B then move
    else (if byte == 0x99 then fill_sign
    else (if byte / 8 == 0x17 then constant (byte % 8)
    else (if byte == 0xD3 then rotate
    else (if byte == 0xE9 then jump
    else (if byte == 0xF7 then group_3
    else (if byte == 0xC3 then ret
    else (if byte == 0xE8 then call
    else other)))))))))))))))))

-- the same by the prefix: 66 is read only with 89
abbrev pub form_of : Prefix → ℕ → Form
form_of Plain byte = plain_form byte
form_of Word byte = if byte == 0x89 then store_word else other
form_of Repeat byte = other

-- opcodes of two bytes, by the second byte (table A-3)
abbrev pub plain_form_2 : ℕ → Form
plain_form_2 byte =
    if byte / 16 == 0x4 then move_if (byte % 16)
    else (if byte / 16 == 0x8 then jump_if (byte % 16)
    else (if byte / 16 == 0x9 then set_if (byte % 16)
    else (if byte == 0xAE then fence
    else (if byte == 0xAF then imul
    else (if byte == 0xB6 then extend Zero8
    else (if byte == 0xB7 then extend Zero16
    else (if byte == 0xBE then extend Sign8
    else (if byte == 0xBF then extend Sign16
    else other))))))))

-- the same by the prefix: F3 is read only with the counts of bits
abbrev pub form_2_of : Prefix → ℕ → Form
form_2_of Plain byte = plain_form_2 byte
form_2_of Word byte = other
form_2_of Repeat byte =
    if byte == 0xB8 then count Popcnt else (if byte == 0xBC then count Tzcnt else (if byte == 0xBD then count Lzcnt else other))

-- the shift or rotation of a field reg (table A-6, group 2); this crate does not have 2, 3 and 6
abbrev pub rotations : List (Option Rotation)
rotations = Some Rol ∷ Some Ror ∷ None ∷ None ∷ Some Shl ∷ Some Shr ∷ None ∷ Some Sar ∷ []

-- ---- instructions

-- the answer: an instruction, and the bytes after it
abbrev pub give : Instruction → List ℕ → Decoded
give instruction rest = Some (instruction, rest)

-- the answer if a test is true
abbrev pub give_if : Bool → Instruction → List ℕ → Decoded
give_if true instruction rest = give instruction rest
give_if false instruction rest = None

-- goes on only if the place is a register
abbrev pub at_register : Place → (Register → Decoded) → Decoded
at_register (InRegister r) f = f r
at_register (InMemory a) f = None

-- goes on only if the place is memory
abbrev pub at_memory : Place → (Address → Decoded) → Decoded
at_memory (InRegister r) f = None
at_memory (InMemory a) f = f a

-- goes on only if this crate has the condition
abbrev pub at_condition : Option Condition → (Condition → Decoded) → Decoded
at_condition None f = None
at_condition (Some condition) f = f condition

-- goes on only if this crate has the shift
abbrev pub at_rotation : Option Rotation → (Rotation → Decoded) → Decoded
at_rotation None f = None
at_rotation (Some rotation) f = f rotation

-- MOVZX and MOVSX from 8 bits need a register with a lowest byte
abbrev pub is_extended : Rex → Extension → Place → Bool
is_extended rex Zero8 from = has_low_byte_at rex from
is_extended rex Sign8 from = has_low_byte_at rex from
is_extended rex how from = true

-- group 3 has DIV at 6 and IDIV at 7 (table A-6)
abbrev pub divide_by : ℕ → Size → Register → List ℕ → Decoded
divide_by field size r rest =
    if field == 6 then give (Divide false size r) rest else (if field == 7 then give (Divide true size r) rest else None)

-- reads the bytes after an opcode
abbrev pub decode_form : Form → Rex → List ℕ → Decoded
decode_form (alu op) rex bytes = operands rex bytes (λ field place rest. give (Alu op (size_of rex.w) (register_of rex.r field) place) rest)
decode_form move_wide rex bytes = operands rex bytes (λ field place rest. give (Extend Sign32 (size_of rex.w) (register_of rex.r field) place) rest)
decode_form test rex bytes =
    operands rex bytes (λ field place rest. at_register place (λ r. give (Test (size_of rex.w) r (register_of rex.r field)) rest))
decode_form store_byte rex bytes =
    operands rex bytes (λ field place rest. at_memory place (λ a.
    give_if (has_low_byte rex (register_of rex.r field)) (Store width.Byte a (register_of rex.r field)) rest))
decode_form store rex bytes =
    operands rex bytes (λ field place rest. at_memory place (λ a.
    give (Store (if rex.w == 0 then width.Long else width.Quad) a (register_of rex.r field)) rest))
decode_form store_word rex bytes =
    operands rex bytes (λ field place rest. at_memory place (λ a. give_if (rex.w == 0) (Store width.Word a (register_of rex.r field)) rest))
decode_form move rex bytes = operands rex bytes (λ field place rest. give (Mov (size_of rex.w) (register_of rex.r field) place) rest)
decode_form fill_sign rex bytes = give (FillSign (size_of rex.w)) bytes
decode_form (constant field) rex bytes =
    immediate (if rex.w == 0 then 4 else 8) bytes (λ number rest. give (Constant (register_of rex.b field) number) rest)
decode_form rotate rex bytes =
    operands rex bytes (λ field place rest. at_register place (λ r.
    at_rotation (slice_index_or rotations field None) (λ op. give (Rotate op (size_of rex.w) r) rest)))
decode_form group_3 rex bytes = operands rex bytes (λ field place rest. at_register place (λ r. divide_by field (size_of rex.w) r rest))
decode_form jump rex bytes = immediate 4 bytes (λ number rest. give (Jump number) rest)
decode_form call rex bytes = immediate 4 bytes (λ number rest. give (Call number) rest)
decode_form ret rex bytes = give Ret bytes
decode_form fence rex [] = None
decode_form fence rex (byte ∷ rest) = give_if (byte == 0xE8) Lfence rest
decode_form imul rex bytes = operands rex bytes (λ field place rest. give (Imul (size_of rex.w) (register_of rex.r field) place) rest)
decode_form (extend how) rex bytes =
    operands rex bytes (λ field place rest. give_if (is_extended rex how place) (Extend how (size_of rex.w) (register_of rex.r field) place) rest)
decode_form (count op) rex bytes = operands rex bytes (λ field place rest. give (Count op (size_of rex.w) (register_of rex.r field) place) rest)
decode_form (set_if number) rex bytes =
    operands rex bytes (λ field place rest. at_register place (λ r.
    at_condition (condition_of number) (λ condition. give_if (has_low_byte rex r) (SetIf condition r) rest)))
decode_form (move_if number) rex bytes =
    operands rex bytes (λ field place rest.
    at_condition (condition_of number) (λ condition. give (MoveIf condition (size_of rex.w) (register_of rex.r field) place) rest))
decode_form (jump_if number) rex bytes =
    immediate 4 bytes (λ to rest. at_condition (condition_of number) (λ condition. give (JumpIf condition to) rest))
decode_form other rex bytes = None

-- reads the second byte of an opcode
abbrev pub decode_2 : Prefix → Rex → List ℕ → Decoded
decode_2 prefix rex [] = None
decode_2 prefix rex (byte ∷ bytes) = decode_form (form_2_of prefix byte) rex bytes

-- reads an opcode, which has two bytes if the first is 0F
abbrev pub decode_opcode : Prefix → Rex → List ℕ → Decoded
decode_opcode prefix rex [] = None
decode_opcode prefix rex (byte ∷ bytes) = if byte == 0x0F then decode_2 prefix rex bytes else decode_form (form_of prefix byte) rex bytes

-- reads the REX byte, 40 to 4F, if there is one
abbrev pub decode_rex : Prefix → List ℕ → Decoded
decode_rex prefix [] = None
decode_rex prefix (byte ∷ bytes) = if byte / 16 == 4 then decode_opcode prefix (rex_of byte) bytes else decode_opcode prefix no_rex (byte ∷ bytes)

-- reads an instruction from the first byte on
abbrev pub decode : List ℕ → Decoded
decode [] = None
decode (byte ∷ bytes) =
    if byte == 0x66 then decode_rex Word bytes else (if byte == 0xF3 then decode_rex Repeat bytes else decode_rex Plain (byte ∷ bytes))
