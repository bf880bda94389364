-- The sixteen general registers, the sizes of operands, and what a write of a register leaves in it. In this crate "the manual" is the Intel 64 and
-- IA-32 Architectures Software Developer's Manual; for this file see volume 1, section 3.4.1.1, and volume 2, table 3-1. Other registers, such as RIP, RFLAGS and the vector registers, are not part of this model: the number of the next instruction
-- (Programs.antt) stands for RIP, and four flags (Operations.antt) for RFLAGS.
use Rattle.std.specs.Prelude.{ℕ, ◌%◌, ◌^◌, ◌+◌, ◌-◌, nat_eq, if◌then◌else◌}
use Rattle.bl_x64.specs.declared.register.Register.{Register}
use Rattle.bl_x64.specs.declared.register.Register.TheVariants.{Rax, Rcx, Rdx, Rbx, Rsp, Rbp, Rsi, Rdi, R8, R9, R10, R11, R12, R13, R14, R15}
use Rattle.bl_x64.specs.declared.instruction.Size.{Size}
use Rattle.bl_x64.specs.declared.instruction.Size.TheVariants.{Long, Quad}
use Rattle.bl_x64.specs.declared.instruction.Width.{Width}
use Rattle.bl_x64.specs.declared.instruction.Width.TheVariants as width

-- the number of a register in an encoding (volume 2, table 3-1)
abbrev pub code_of : Register → ℕ
code_of Rax = 0
code_of Rcx = 1
code_of Rdx = 2
code_of Rbx = 3
code_of Rsp = 4
code_of Rbp = 5
code_of Rsi = 6
code_of Rdi = 7
code_of R8 = 8
code_of R9 = 9
code_of R10 = 10
code_of R11 = 11
code_of R12 = 12
code_of R13 = 13
code_of R14 = 14
code_of R15 = 15

-- the number of bits of an operand
abbrev pub bits_of : Size → ℕ
bits_of Long = 32
bits_of Quad = 64

-- the number of bytes of an operand
abbrev pub bytes_in : Size → ℕ
bytes_in Long = 4
bytes_in Quad = 8

-- the number of bytes that a store writes
abbrev pub width_of : Width → ℕ
width_of width.Byte = 1
width_of width.Word = 2
width_of width.Long = 4
width_of width.Quad = 8

-- the number that each register holds. Each write of this crate's machine is a number below 2 ^ 64 if the state before had only such numbers;
-- the type itself sets no bound
abbrev pub Registers : Type 0
Registers = Register → ℕ

-- the number of the lowest n bits of a register
abbrev pub low : ℕ → Registers → Register → ℕ
low n registers r = registers r % 2 ^ n

-- the registers after a number is written to one of them. A result of 32 bits is the whole register, since the processor writes zeros to the
-- upper 32 bits (section 3.4.1.1)
abbrev pub put : Registers → Register → ℕ → Registers
put registers to value = λ r. (if nat_eq (code_of r) (code_of to) then value else registers r)

-- the registers after 8 bits are written to the lowest byte of one of them: its upper 56 bits stay (section 3.4.1.1)
abbrev pub put_byte : Registers → Register → ℕ → Registers
put_byte registers to value = put registers to (registers to - registers to % 2 ^ 8 + value)
