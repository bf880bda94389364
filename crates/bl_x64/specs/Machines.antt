-- What an instruction does to registers, flags and memory. Lay this file next to the pages of volume 2 of the manual for "MOV", "MOVZX",
-- "MOVSX/MOVSXD", "ADD", "OR", "AND", "SUB", "XOR", "CMP", "TEST", "IMUL", "RCL/RCR/ROL/ROR", "SAL/SAR/SHL/SHR", "LZCNT", "TZCNT", "POPCNT",
-- "SETcc", "CMOVcc", "CWD/CDQ/CQO", "DIV", "IDIV", "LFENCE", "JMP", "Jcc", "CALL" and "RET". Differences from the manual:
-- - The only memory operand is a base, an index with scale 1 if there is one, and a displacement of 32 bits. Segments have base 0.
-- - An access must lie in one of three areas, whole. Any other access has no step: the machine is stuck there, and a proof that it is not stuck
--   is a proof of memory safety. Paging, canonical addresses and alignment checks are not part of this model: the host maps the three areas.
-- - Addresses are taken modulo 2 ^ 64, and an access that would wrap around lies in no area that ends below 2 ^ 64.
-- - A division by 0, a quotient that does not fit, and a condition that reads an undefined flag have no step either.
-- - LFENCE does nothing: this machine runs one instruction after another, without speculation.
-- - Code is separate from memory: no store changes it. Its addresses are numbers that CALL pushes and RET pops; no other instruction reads them.
-- - Shadow stacks and indirect branch tracking are not part of this model.
-- - Interrupts, other threads and the time of instructions are not part of this model.
use Rattle.std.specs.Prelude.{ℕ, zero, suc, ◌+◌, ◌-◌, ◌*◌, ◌/◌, ◌%◌, ◌^◌, ◌==◌, ◌&&◌, ◌||◌, Bool, true, false, nat_lt, nat_le, if◌then◌else◌, List, [], ◌∷◌, length, slice_index, Option, Some, None, ℤ, int_lt, int_le, int_div, pos, ◌-ℤ◌, ◌*ℤ◌}
use Rattle.bl_base.specs.Bytes.{number_of, bytes_of}
use Rattle.bl_ops.specs.Integer.{truth, bit, signed, unsigned, iextend_s}
use Rattle.bl_x64.specs.Registers.{Registers, bits_of, bytes_in, width_of, low, put, put_byte}
use Rattle.bl_x64.specs.Operations.{Flags, unknown, is_negative, alu_result, alu_flags, alu_writes, imul_result, imul_flags, rotation_result, rotation_flags, count_result, count_flags, extended_bytes, extension_result, holds, overflows}
use Rattle.bl_x64.specs.declared.register.Register.{Register}
use Rattle.bl_x64.specs.declared.register.Register.TheVariants.{Rax, Rcx, Rdx, Rsp}
use Rattle.bl_x64.specs.declared.instruction.Size.{Size}
use Rattle.bl_x64.specs.declared.instruction.Size.TheVariants as size
use Rattle.bl_x64.specs.declared.instruction.Address.{Address}
use Rattle.bl_x64.specs.declared.instruction.Place.{Place}
use Rattle.bl_x64.specs.declared.instruction.Place.TheVariants as place
use Rattle.bl_x64.specs.declared.instruction.Instruction.{Instruction}
use Rattle.bl_x64.specs.declared.instruction.Instruction.TheVariants.{Mov, Store, Constant, Extend, Alu, Test, Imul, Rotate, Count, SetIf, MoveIf, FillSign, Divide, Lfence, Jump, JumpIf, Call, Ret}
use Rattle.bl_x64.specs.declared.instruction.Alu.TheVariants as alu

-- ---- memory

-- a run of `size` bytes that begins at `start`
pub record Area : Type 0 where
  pub start : ℕ
  pub size : ℕ

-- the areas that a run may read and write: the context, which all calls share; the slots, which are the frames of the calls; and the bytes
-- of all memories. `starts` has the address of each instruction of the code, then the address of its end, and then the address to which the host's
-- call returns. The machine over bytes uses only the first of these, which is the address of the first byte
pub record Areas : Type 0 where
  pub context : Area
  pub slots : Area
  pub memory : Area
  pub starts : ℕ → ℕ

-- `count` bytes from an address on lie in an area
abbrev pub is_in : Area → ℕ → ℕ → Bool
is_in area from count = nat_le area.start from && nat_le (from + count) (area.start + area.size)

-- they lie in one of the three areas
abbrev pub is_allowed : Areas → ℕ → ℕ → Bool
is_allowed areas from count = is_in areas.context from count || is_in areas.slots from count || is_in areas.memory from count

-- the byte at each address. The type sets no bound; `Matches` of bl_select keeps each byte below 2 ^ 8
abbrev pub Bytes : Type 0
Bytes = ℕ → ℕ

-- `count` bytes from an address on
abbrev pub bytes_at : Bytes → ℕ → ℕ → List ℕ
bytes_at memory from zero = []
bytes_at memory from (suc count) = memory from ∷ bytes_at memory (suc from) count

-- the memory after bytes are written from an address on
abbrev pub written : Bytes → ℕ → List ℕ → Bytes
written memory from bytes = λ at. (if nat_le from at && nat_lt at (from + length bytes) then slice_index bytes (at - from) else memory at)

-- ---- states

-- a state without the number of the next instruction: registers, flags and memory
pub record Core : Type 0 where
  pub registers : Registers
  pub flags : Flags
  pub memory : Bytes

-- a displacement of 32 bits, extended by its sign to 64 (volume 2, section 2.2.1.3)
abbrev pub widened : ℕ → ℕ
widened number = iextend_s 32 64 number

-- the number in the index register; 0 if there is no index
abbrev pub index_in : Registers → Option Register → ℕ
index_in registers None = 0
index_in registers (Some r) = registers r

-- the address of a memory operand, modulo 2 ^ 64 (volume 1, section 3.7.5)
abbrev pub address_in : Registers → Address → ℕ
address_in registers a = (registers a.base + index_in registers a.index + widened a.displacement) % 2 ^ 64

-- ---- operands

-- the number in `count` bytes of memory, little endian; None if they lie in no area
abbrev pub loaded : Areas → ℕ → ℕ → Bytes → Option ℕ
loaded areas count from memory = if is_allowed areas from count then Some (number_of (bytes_at memory from count)) else None

-- the number in the lowest `count` bytes of a register, or in `count` bytes of memory
abbrev pub read : Areas → ℕ → Place → Core → Option ℕ
read areas count (place.Register r) c = Some (low (8 * count) c.registers r)
read areas count (place.Memory a) c = loaded areas count (address_in c.registers a) c.memory

-- ---- effects

-- An instruction goes on to the next one, jumps to a target, calls a target, returns to an address, or has no step. A call has not yet pushed the
-- address of the next instruction, which each of the two machines knows in its own way. A return has popped its address
pub data Effect : Type 0 where
  goes_on : Core → Effect
  jumps : ℕ → Core → Effect
  calls : ℕ → Core → Effect
  returns : ℕ → Core → Effect
  faults : Effect

-- the effect of a number that was read; no step if the access lies in no area
abbrev pub by : Option ℕ → (ℕ → Effect) → Effect
by None f = faults
by (Some number) f = f number

-- one effect if a condition holds, and another if it does not; no step if it is undefined
abbrev pub if_holds : Option Bool → Effect → Effect → Effect
if_holds None held failed = faults
if_holds (Some true) held failed = held
if_holds (Some false) held failed = failed

-- the state after a register is written
abbrev pub with_register : Core → Register → ℕ → Core
with_register c to value = record c { registers = put c.registers to value }

-- the state after an operation writes its result and its flags
abbrev pub with_result : Core → Register → ℕ → Flags → Core
with_result c to value flags = record { registers = put c.registers to value; flags = flags; memory = c.memory }

-- the state after an operation that writes its flags, and its result only if the test is true
abbrev pub with_result_if : Bool → Core → Register → ℕ → Flags → Core
with_result_if true c to value flags = with_result c to value flags
with_result_if false c to value flags = record c { flags = flags }

-- the effect of a store of the lowest `count` bytes of a number
abbrev pub stored : Areas → ℕ → ℕ → ℕ → Core → Effect
stored areas count from value c =
    if is_allowed areas from count then goes_on (record c { memory = written c.memory from (bytes_of count value) }) else faults

-- ---- "CALL", "RET": the return address has 8 bytes, and RSP points to the last one that was pushed

-- the address that 8 pushed bytes have
abbrev pub pushed_at : Core → ℕ
pushed_at c = (c.registers Rsp + 2 ^ 64 - 8) % 2 ^ 64

-- the state after a number is pushed; None if its bytes lie in no area
abbrev pub pushed : Areas → ℕ → Core → Option Core
pushed areas value c =
    if is_allowed areas (pushed_at c) 8
    then Some (record { registers = put c.registers Rsp (pushed_at c); flags = c.flags; memory = written c.memory (pushed_at c) (bytes_of 8 value) })
    else None

-- the state after 8 bytes are popped
abbrev pub popped : Core → Core
popped c = with_register c Rsp ((c.registers Rsp + 8) % 2 ^ 64)

-- ---- "DIV", "IDIV": a divisor of 0 and a quotient that does not fit have no step

-- the quotient goes to RAX and the remainder to RDX; all flags are undefined
abbrev pub divided : Core → ℕ → ℕ → Effect
divided c quotient remainder =
    goes_on (record { registers = put (put c.registers Rax quotient) Rdx remainder; flags = unknown; memory = c.memory })

-- DIV of a dividend of 2 n bits by a divisor of n bits
abbrev pub divide_unsigned : ℕ → ℕ → ℕ → Core → Effect
divide_unsigned n dividend divisor c =
    if divisor == 0 then faults
    else (if nat_lt (dividend / divisor) (2 ^ n) then divided c (dividend / divisor) (dividend % divisor) else faults)

-- IDIV: the quotient is rounded toward 0, and the remainder has the sign of the dividend
abbrev pub divide_signed : ℕ → ℤ → ℤ → Core → Effect
divide_signed n dividend divisor c =
    if overflows n (int_div dividend divisor) then faults
    else divided c (unsigned n (int_div dividend divisor)) (unsigned n (dividend -ℤ divisor *ℤ int_div dividend divisor))

-- the upper half of the dividend is in RDX, and its lower half in RAX
abbrev pub divide : Bool → ℕ → ℕ → ℕ → ℕ → Core → Effect
divide false n high lowest divisor c = divide_unsigned n (high * 2 ^ n + lowest) divisor c
divide true n high lowest divisor c =
    if divisor == 0 then faults else divide_signed n (signed (2 * n) (high * 2 ^ n + lowest)) (signed n divisor) c

-- ---- instructions

-- The effect of each instruction. A result of 32 bits sets the upper 32 bits of its register to zero. MoveIf reads its operand even if the
-- condition fails, and with 32 bits it then clears the upper half of its register ("CMOVcc"). Targets of jumps have no meaning here: Programs.antt
-- reads them as numbers of instructions, and ByteMachines.antt of bl_asm as distances
abbrev pub effect : Areas → Instruction → Core → Effect
effect areas (Mov size to from) c = by (read areas (bytes_in size) from c) (λ value. goes_on (with_register c to value))
effect areas (Store width to from) c = stored areas (width_of width) (address_in c.registers to) (c.registers from) c
effect areas (Constant to value) c = goes_on (with_register c to value)
effect areas (Extend how size to from) c =
    by (read areas (extended_bytes how) from c) (λ value. goes_on (with_register c to (extension_result how (bits_of size) value)))
effect areas (Alu op size to from) c =
    by (read areas (bytes_in size) from c) (λ b.
    let n = bits_of size in
    let a = low n c.registers to in
    goes_on (with_result_if (alu_writes op) c to (alu_result op n a b) (alu_flags op n a b)))
effect areas (Test size one other) c =
    let n = bits_of size in
    goes_on (record c { flags = alu_flags alu.And n (low n c.registers one) (low n c.registers other) })
effect areas (Imul size to from) c =
    by (read areas (bytes_in size) from c) (λ b.
    let n = bits_of size in
    let a = low n c.registers to in
    goes_on (with_result c to (imul_result n a b) (imul_flags n a b)))
effect areas (Rotate op size to) c =
    let n = bits_of size in
    let a = low n c.registers to in
    let count = low 8 c.registers Rcx in
    goes_on (with_result c to (rotation_result op n a count) (rotation_flags op n a count c.flags))
effect areas (Count op size to from) c =
    by (read areas (bytes_in size) from c) (λ a.
    goes_on (with_result c to (count_result op (bits_of size) a) (count_flags op (bits_of size) a)))
effect areas (SetIf condition to) c =
    if_holds (holds condition c.flags) (goes_on (record c { registers = put_byte c.registers to 1 })) (goes_on (record c { registers = put_byte c.registers to 0 }))
effect areas (MoveIf condition size to from) c =
    by (read areas (bytes_in size) from c) (λ value.
    if_holds (holds condition c.flags) (goes_on (with_register c to value)) (goes_on (with_register c to (low (bits_of size) c.registers to))))
effect areas (FillSign size) c =
    let n = bits_of size in
    goes_on (with_register c Rdx (bit (low n c.registers Rax) (n - 1) * (2 ^ n - 1)))
effect areas (Divide sign size divisor) c =
    let n = bits_of size in
    divide sign n (low n c.registers Rdx) (low n c.registers Rax) (low n c.registers divisor) c
effect areas Lfence c = goes_on c
effect areas (Jump to) c = jumps to c
effect areas (JumpIf condition to) c = if_holds (holds condition c.flags) (jumps to c) (goes_on c)
effect areas (Call to) c = calls to c
effect areas Ret c = by (loaded areas 8 (c.registers Rsp) c.memory) (λ address. returns address (popped c))
