-- The decoder reads back each instruction.
use Rattle.std.proofs.Common.{◌≡◌, ℕ, ◌+◌, ◌/◌, ◌%◌, ◌^◌, ◌<◌, ◌++◌, List, [], ◌∷◌, Bool, true, false, ltb, ◌==◌, if◌then◌else◌, Some, None, slice_index_or, refl, ap, ap₂, ◌∙◌, arith}
use Rattle.std.proofs.lemmas.Bool.{ltb-true}
use Rattle.bl_base.specs.Bytes.{bytes_of}
use Rattle.bl_x64.specs.Registers.{code_of}
use Rattle.bl_x64.specs.Programs.{IsInstruction, IsPlace, IsAddress}
use Rattle.bl_x64.specs.declared.register.Register.{Register}
use Rattle.bl_x64.specs.declared.register.Register.TheVariants.{Rax}
use Rattle.bl_x64.specs.declared.instruction.Size.{Size}
use Rattle.bl_x64.specs.declared.instruction.Size.TheVariants.{Long, Quad}
use Rattle.bl_x64.specs.declared.instruction.Width.{Width}
use Rattle.bl_x64.specs.declared.instruction.Width.TheVariants as width
use Rattle.bl_x64.specs.declared.instruction.Alu.{Alu as Operation}
use Rattle.bl_x64.specs.declared.instruction.Alu.TheVariants.{Add}
use Rattle.bl_x64.specs.declared.instruction.Rotation.{Rotation}
use Rattle.bl_x64.specs.declared.instruction.Rotation.TheVariants.{Rol, Ror, Shl, Shr, Sar}
use Rattle.bl_x64.specs.declared.instruction.Count.{Count as Counting}
use Rattle.bl_x64.specs.declared.instruction.Count.TheVariants.{Lzcnt}
use Rattle.bl_x64.specs.declared.instruction.Extension.{Extension}
use Rattle.bl_x64.specs.declared.instruction.Extension.TheVariants.{Zero8, Zero16, Sign8, Sign16, Sign32}
use Rattle.bl_x64.specs.declared.instruction.Condition.{Condition}
use Rattle.bl_x64.specs.declared.instruction.Condition.TheVariants.{Below}
use Rattle.bl_x64.specs.declared.instruction.Address.{Address}
use Rattle.bl_x64.specs.declared.instruction.Place.{Place}
use Rattle.bl_x64.specs.declared.instruction.Place.TheVariants.{Register as InRegister, Memory as InMemory}
use Rattle.bl_x64.specs.declared.instruction.Instruction.{Instruction}
use Rattle.bl_x64.specs.declared.instruction.Instruction.TheVariants.{Mov, Store, Constant, Extend, Alu, Test, Imul, Rotate, Count, SetIf, MoveIf, FillSign, Divide, Lfence, Jump, JumpIf, Call, Ret}
use Rattle.bl_asm.specs.Encoding.{wide, condition_code, alu_opcode, count_opcode, index_bit, base_bit, rex_byte, operand_bytes, one, two, constant_bytes, encoded}
use Rattle.bl_asm.specs.Decoding.{Decoded, Prefix, Plain, Word, Repeat, Rex, size_of, register_of, condition_of, has_low_byte_at, operands, alu, count, constant, set_if, move_if, jump_if, rotations, give, give_if, at_register, at_memory, at_condition, at_rotation, is_extended, divide_by, decode_form, decode_opcode, decode_rex, decode}
use Rattle.bl_asm.proofs.Operands.{code_small, register_is, base_bit-small, index_bit-small, immediate_is, operands_are, rex_with, rex_read, plain_read}

-- ---- words of bytes

size_is : (size : Size) → size_of (wide size) ≡ size
size_is Long = refl
size_is Quad = refl

wide_small : (size : Size) → wide size < 2
wide_small Long = omega arith
wide_small Quad = omega arith

condition_is : (condition : Condition) → condition_of (condition_code condition) ≡ Some condition
condition_is Below = refl
condition_is condition = refl

low_byte_is : (w r x b : ℕ) (p : Place) → has_low_byte_at (rex_with w r x b) p ≡ true
low_byte_is w r x b (InRegister r') = refl
low_byte_is w r x b (InMemory a) = refl

extended_is : (w r x b : ℕ) (how : Extension) (p : Place) → is_extended (rex_with w r x b) how p ≡ true
extended_is w r x b Zero8 p = low_byte_is w r x b p
extended_is w r x b Sign8 p = low_byte_is w r x b p
extended_is w r x b how p = refl

-- ---- opcodes

alu_reads : (op : Operation) (rex : Rex) (bytes : List ℕ) → decode_opcode Plain rex (alu_opcode op ∷ bytes) ≡ decode_form (alu op) rex bytes
alu_reads Add rex bytes = refl
alu_reads op rex bytes = refl

count_reads : (op : Counting) (rex : Rex) (bytes : List ℕ) → decode_opcode Repeat rex (0x0F ∷ count_opcode op ∷ bytes) ≡ decode_form (count op) rex bytes
count_reads Lzcnt rex bytes = refl
count_reads op rex bytes = refl

set_reads : (condition : Condition) (rex : Rex) (bytes : List ℕ)
    → decode_opcode Plain rex (0x0F ∷ (144 + condition_code condition) ∷ bytes) ≡ decode_form (set_if (condition_code condition)) rex bytes
set_reads Below rex bytes = refl
set_reads condition rex bytes = refl

move_reads : (condition : Condition) (rex : Rex) (bytes : List ℕ)
    → decode_opcode Plain rex (0x0F ∷ (64 + condition_code condition) ∷ bytes) ≡ decode_form (move_if (condition_code condition)) rex bytes
move_reads Below rex bytes = refl
move_reads condition rex bytes = refl

jump_reads : (condition : Condition) (bytes : List ℕ)
    → decode (0x0F ∷ (128 + condition_code condition) ∷ bytes) ≡ decode_form (jump_if (condition_code condition)) (record { present = false; w = 0; r = 0; x = 0; b = 0 }) bytes
jump_reads Below bytes = refl
jump_reads condition bytes = refl

constant_reads : (r : Register) (rex : Rex) (bytes : List ℕ)
    → decode_opcode Plain rex ((184 + code_of r % 8) ∷ bytes) ≡ decode_form (constant (code_of r % 8)) rex bytes
constant_reads Rax rex bytes = refl
constant_reads r rex bytes = refl

-- ---- operands behind REX

-- with a number of a register and a place
module _ (size : Size) (r : Register) (p : Place) (rest : List ℕ) (h : IsPlace p) where
  abbrev rex : Rex
  rex = rex_with (wide size) (code_of r / 8) (index_bit p) (base_bit p)

  abbrev behind : List ℕ
  behind = operand_bytes (code_of r % 8) p ++ rest

  place_reads : (f : ℕ → Place → List ℕ → Decoded) → operands rex behind f ≡ f (code_of r % 8) p rest
  place_reads f = operands_are rex (code_of r % 8) p rest f (omega arith) h refl refl

  one_reads : (opcode : ℕ) → decode (one opcode (wide size) (code_of r) p ++ rest) ≡ decode_opcode Plain rex (opcode ∷ behind)
  one_reads opcode =
      plain_read (wide size) (code_of r / 8) (index_bit p) (base_bit p) (wide_small size) (omega (arith, code_small r)) (index_bit-small p) (base_bit-small p) (opcode ∷ behind)

  two_reads : (opcode : ℕ) → decode (two opcode (wide size) (code_of r) p ++ rest) ≡ decode_opcode Plain rex (0x0F ∷ opcode ∷ behind)
  two_reads opcode =
      plain_read (wide size) (code_of r / 8) (index_bit p) (base_bit p) (wide_small size) (omega (arith, code_small r)) (index_bit-small p) (base_bit-small p) (0x0F ∷ opcode ∷ behind)

  behind_reads : (prefix : Prefix) (opcode : List ℕ)
      → decode_rex prefix (rex_byte (wide size) (code_of r / 8) (index_bit p) (base_bit p) ∷ (opcode ++ behind)) ≡ decode_opcode prefix rex (opcode ++ behind)
  behind_reads prefix opcode =
      rex_read (wide size) (code_of r / 8) (index_bit p) (base_bit p) (wide_small size) (omega (arith, code_small r)) (index_bit-small p) (base_bit-small p) prefix (opcode ++ behind)

  -- of an instruction by its size and its register
  named : (f : Size → Register → Instruction)
      → give (f (size_of (wide size)) (register_of (code_of r / 8) (code_of r % 8))) rest ≡ give (f size r) rest
  named f = ap₂ (λ s q. give (f s q) rest) (size_is size) (register_is r)

  -- ---- opcodes at any place

  mov_is : decode (encoded (Mov size r p) ++ rest) ≡ Some (Mov size r p, rest)
  mov_is = one_reads 0x8B ∙ place_reads _ ∙ named (λ s q. Mov s q p)

  alu_is : (op : Operation) → decode (encoded (Alu op size r p) ++ rest) ≡ Some (Alu op size r p, rest)
  alu_is op = one_reads (alu_opcode op) ∙ alu_reads op rex behind ∙ place_reads _ ∙ named (λ s q. Alu op s q p)

  imul_is : decode (encoded (Imul size r p) ++ rest) ≡ Some (Imul size r p, rest)
  imul_is = two_reads 0xAF ∙ place_reads _ ∙ named (λ s q. Imul s q p)

  count_is : (op : Counting) → decode (encoded (Count op size r p) ++ rest) ≡ Some (Count op size r p, rest)
  count_is op = behind_reads Repeat (0x0F ∷ count_opcode op ∷ []) ∙ count_reads op rex behind ∙ place_reads _ ∙ named (λ s q. Count op s q p)

  move_if_is : (condition : Condition) → decode (encoded (MoveIf condition size r p) ++ rest) ≡ Some (MoveIf condition size r p, rest)
  move_if_is condition =
      two_reads (64 + condition_code condition) ∙ move_reads condition rex behind ∙ place_reads _
      ∙ ap (λ c. at_condition c (λ k. give (MoveIf k (size_of (wide size)) (register_of (code_of r / 8) (code_of r % 8)) p) rest)) (condition_is condition)
      ∙ named (λ s q. MoveIf condition s q p)

  extend_is : (how : Extension) → decode (encoded (Extend how size r p) ++ rest) ≡ Some (Extend how size r p, rest)
  extend_is Sign32 = one_reads 0x63 ∙ place_reads _ ∙ named (λ s q. Extend Sign32 s q p)
  extend_is Zero16 = two_reads 0xB7 ∙ place_reads _ ∙ named (λ s q. Extend Zero16 s q p)
  extend_is Sign16 = two_reads 0xBF ∙ place_reads _ ∙ named (λ s q. Extend Sign16 s q p)
  extend_is Zero8 =
      two_reads 0xB6 ∙ place_reads _
      ∙ ap (λ t. give_if t (Extend Zero8 (size_of (wide size)) (register_of (code_of r / 8) (code_of r % 8)) p) rest) (low_byte_is (wide size) (code_of r / 8) (index_bit p) (base_bit p) p)
      ∙ named (λ s q. Extend Zero8 s q p)
  extend_is Sign8 =
      two_reads 0xBE ∙ place_reads _
      ∙ ap (λ t. give_if t (Extend Sign8 (size_of (wide size)) (register_of (code_of r / 8) (code_of r % 8)) p) rest) (low_byte_is (wide size) (code_of r / 8) (index_bit p) (base_bit p) p)
      ∙ named (λ s q. Extend Sign8 s q p)

  store_byte_reads : decode (one 0x88 (wide size) (code_of r) p ++ rest) ≡ at_memory p (λ a. give (Store width.Byte a (register_of (code_of r / 8) (code_of r % 8))) rest)
  store_byte_reads = one_reads 0x88 ∙ place_reads _

  store_reads : decode (one 0x89 (wide size) (code_of r) p ++ rest)
      ≡ at_memory p (λ a. give (Store (if wide size == 0 then width.Long else width.Quad) a (register_of (code_of r / 8) (code_of r % 8))) rest)
  store_reads = one_reads 0x89 ∙ place_reads _

  store_word_reads : decode (0x66 ∷ one 0x89 (wide size) (code_of r) p ++ rest)
      ≡ at_memory p (λ a. give_if (wide size == 0) (Store width.Word a (register_of (code_of r / 8) (code_of r % 8))) rest)
  store_word_reads = behind_reads Word (0x89 ∷ []) ∙ place_reads _

  test_reads : decode (one 0x85 (wide size) (code_of r) p ++ rest)
      ≡ at_register p (λ q. give (Test (size_of (wide size)) q (register_of (code_of r / 8) (code_of r % 8))) rest)
  test_reads = one_reads 0x85 ∙ place_reads _

-- with a number of the field reg below 8 and a place
module _ (size : Size) (field : ℕ) (p : Place) (rest : List ℕ) (h : IsPlace p) (small : field < 8) where
  abbrev rex_by : Rex
  rex_by = rex_with (wide size) (field / 8) (index_bit p) (base_bit p)

  abbrev behind_field : List ℕ
  behind_field = operand_bytes (field % 8) p ++ rest

  field_reads : (f : ℕ → Place → List ℕ → Decoded) → operands rex_by behind_field f ≡ f (field % 8) p rest
  field_reads f = operands_are rex_by (field % 8) p rest f (omega arith) h refl refl

  one_by : (opcode : ℕ) → decode (one opcode (wide size) field p ++ rest) ≡ decode_opcode Plain rex_by (opcode ∷ behind_field)
  one_by opcode = plain_read (wide size) (field / 8) (index_bit p) (base_bit p) (wide_small size) (omega arith) (index_bit-small p) (base_bit-small p) (opcode ∷ behind_field)

  two_by : (opcode : ℕ) → decode (two opcode (wide size) field p ++ rest) ≡ decode_opcode Plain rex_by (0x0F ∷ opcode ∷ behind_field)
  two_by opcode = plain_read (wide size) (field / 8) (index_bit p) (base_bit p) (wide_small size) (omega arith) (index_bit-small p) (base_bit-small p) (0x0F ∷ opcode ∷ behind_field)

  rotate_reads : decode (one 0xD3 (wide size) field p ++ rest)
      ≡ at_register p (λ r. at_rotation (slice_index_or rotations (field % 8) None) (λ op. give (Rotate op (size_of (wide size)) r) rest))
  rotate_reads = one_by 0xD3 ∙ field_reads _

  divide_reads : decode (one 0xF7 (wide size) field p ++ rest) ≡ at_register p (λ r. divide_by (field % 8) (size_of (wide size)) r rest)
  divide_reads = one_by 0xF7 ∙ field_reads _

  set_if_reads : (condition : Condition) → decode (two (144 + condition_code condition) (wide size) field p ++ rest)
      ≡ at_register p (λ r. at_condition (condition_of (condition_code condition)) (λ k. give (SetIf k r) rest))
  set_if_reads condition = two_by (144 + condition_code condition) ∙ set_reads condition rex_by behind_field ∙ field_reads _

-- ---- instructions

store_is : (width : Width) (a : Address) (r : Register) (rest : List ℕ) → IsAddress a → decode (encoded (Store width a r) ++ rest) ≡ Some (Store width a r, rest)
store_is width.Byte a r rest h = store_byte_reads Long r (InMemory a) rest h ∙ ap (λ q. give (Store width.Byte a q) rest) (register_is r)
store_is width.Word a r rest h = store_word_reads Long r (InMemory a) rest h ∙ ap (λ q. give (Store width.Word a q) rest) (register_is r)
store_is width.Long a r rest h = store_reads Long r (InMemory a) rest h ∙ ap (λ q. give (Store width.Long a q) rest) (register_is r)
store_is width.Quad a r rest h = store_reads Quad r (InMemory a) rest h ∙ ap (λ q. give (Store width.Quad a q) rest) (register_is r)

rotate_is : (op : Rotation) (size : Size) (r : Register) (rest : List ℕ) → decode (encoded (Rotate op size r) ++ rest) ≡ Some (Rotate op size r, rest)
rotate_is Rol size r rest = rotate_reads size 0 (InRegister r) rest tt (omega arith) ∙ ap (λ s. give (Rotate Rol s r) rest) (size_is size)
rotate_is Ror size r rest = rotate_reads size 1 (InRegister r) rest tt (omega arith) ∙ ap (λ s. give (Rotate Ror s r) rest) (size_is size)
rotate_is Shl size r rest = rotate_reads size 4 (InRegister r) rest tt (omega arith) ∙ ap (λ s. give (Rotate Shl s r) rest) (size_is size)
rotate_is Shr size r rest = rotate_reads size 5 (InRegister r) rest tt (omega arith) ∙ ap (λ s. give (Rotate Shr s r) rest) (size_is size)
rotate_is Sar size r rest = rotate_reads size 7 (InRegister r) rest tt (omega arith) ∙ ap (λ s. give (Rotate Sar s r) rest) (size_is size)

divide_is : (sign : Bool) (size : Size) (r : Register) (rest : List ℕ) → decode (encoded (Divide sign size r) ++ rest) ≡ Some (Divide sign size r, rest)
divide_is false size r rest = divide_reads size 6 (InRegister r) rest tt (omega arith) ∙ ap (λ s. give (Divide false s r) rest) (size_is size)
divide_is true size r rest = divide_reads size 7 (InRegister r) rest tt (omega arith) ∙ ap (λ s. give (Divide true s r) rest) (size_is size)

constant_by : (short : Bool) (r : Register) (value : ℕ) (rest : List ℕ) → value < 2 ^ 64 → ltb value (2 ^ 32) ≡ short
    → decode (constant_bytes short (code_of r) value ++ rest) ≡ Some (Constant r value, rest)
constant_by true r value rest h e =
    plain_read 0 0 0 (code_of r / 8) (omega arith) (omega arith) (omega arith) (omega (arith, code_small r)) ((184 + code_of r % 8) ∷ (bytes_of 4 value ++ rest))
    ∙ constant_reads r (rex_with 0 0 0 (code_of r / 8)) (bytes_of 4 value ++ rest)
    ∙ immediate_is 4 value rest (λ number more. give (Constant (register_of (code_of r / 8) (code_of r % 8)) number) more) (ltb-true value (2 ^ 32) e)
    ∙ ap (λ q. give (Constant q value) rest) (register_is r)
constant_by false r value rest h e =
    plain_read 1 0 0 (code_of r / 8) (omega arith) (omega arith) (omega arith) (omega (arith, code_small r)) ((184 + code_of r % 8) ∷ (bytes_of 8 value ++ rest))
    ∙ constant_reads r (rex_with 1 0 0 (code_of r / 8)) (bytes_of 8 value ++ rest)
    ∙ immediate_is 8 value rest (λ number more. give (Constant (register_of (code_of r / 8) (code_of r % 8)) number) more) h
    ∙ ap (λ q. give (Constant q value) rest) (register_is r)

pub decode_is : (i : Instruction) → IsInstruction i → (rest : List ℕ) → decode (encoded i ++ rest) ≡ Some (i, rest)
decode_is (Mov size to from) h rest = mov_is size to from rest h
decode_is (Store width to from) h rest = store_is width to from rest h
decode_is (Constant to value) h rest = constant_by (ltb value (2 ^ 32)) to value rest h refl
decode_is (Extend how size to from) h rest = extend_is size to from rest h how
decode_is (Alu op size to from) h rest = alu_is size to from rest h op
decode_is (Test size first second) h rest =
    test_reads size second (InRegister first) rest tt ∙ ap₂ (λ s q. give (Test s first q) rest) (size_is size) (register_is second)
decode_is (Imul size to from) h rest = imul_is size to from rest h
decode_is (Rotate op size to) h rest = rotate_is op size to rest
decode_is (Count op size to from) h rest = count_is size to from rest h op
decode_is (SetIf condition to) h rest =
    set_if_reads Long 0 (InRegister to) rest tt (omega arith) condition
    ∙ ap (λ c. at_condition c (λ k. give (SetIf k to) rest)) (condition_is condition)
decode_is (MoveIf condition size to from) h rest = move_if_is size to from rest h condition
decode_is (FillSign size) h rest =
    plain_read (wide size) 0 0 0 (wide_small size) (omega arith) (omega arith) (omega arith) (0x99 ∷ rest) ∙ ap (λ s. give (FillSign s) rest) (size_is size)
decode_is (Divide sign size divisor) h rest = divide_is sign size divisor rest
decode_is Lfence h rest = refl
decode_is (Jump to) h rest = immediate_is 4 to rest (λ number more. give (Jump number) more) h
decode_is (Call to) h rest = immediate_is 4 to rest (λ number more. give (Call number) more) h
decode_is Ret h rest = refl
decode_is (JumpIf condition to) h rest =
    jump_reads condition (bytes_of 4 to ++ rest)
    ∙ immediate_is 4 to rest (λ number more. at_condition (condition_of (condition_code condition)) (λ k. give (JumpIf k number) more)) h
    ∙ ap (λ c. at_condition c (λ k. give (JumpIf k to) rest)) (condition_is condition)
