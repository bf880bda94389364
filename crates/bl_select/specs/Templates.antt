-- The template of each command: the instructions that do what the command does. Operands are loaded to RAX, RCX and RDX, and the value of a command is
-- in RAX until the last move writes its variable. An LFENCE follows this move if the command is protected. RSP, R15 and R14 hold the beginnings of the
-- frame, of the context and of the memories' bytes. No template of a Set branches, calls or uses a variable's register as scratch.
use Rattle.std.specs.Prelude.{ℕ, ◌+◌, ◌-◌, ◌*◌, ◌%◌, ◌^◌, Bool, true, false, List, [], ◌∷◌, ◌++◌, Option, Some, None}
use Rattle.bl_ops.specs.Access.{access_type}
use Rattle.bl_base.specs.declared.names.ValueType.TheVariants.{I32, I64}
use Rattle.bl_ops.specs.declared.op.Op.{Op}
use Rattle.bl_ops.specs.declared.access.AccessKind.{AccessKind}
use Rattle.bl_ops.specs.declared.access.AccessKind.TheVariants.{I32Load, I64Load, I32Load8S, I32Load8U, I32Load16S, I32Load16U, I64Load8S, I64Load8U, I64Load16S, I64Load16U, I64Load32S, I64Load32U, I32Store, I64Store, I32Store8, I32Store16, I64Store8, I64Store16, I64Store32}
use Rattle.bl_x64.specs.declared.register.Register.{Register}
use Rattle.bl_x64.specs.declared.register.Register.TheVariants.{Rax, Rcx, Rdx, Rsp, R14, R15}
use Rattle.bl_x64.specs.declared.instruction.Size.{Size}
use Rattle.bl_x64.specs.declared.instruction.Size.TheVariants.{Long, Quad}
use Rattle.bl_x64.specs.declared.instruction.Width.TheVariants as width
use Rattle.bl_x64.specs.declared.instruction.Alu.{Alu as Operation}
use Rattle.bl_x64.specs.declared.instruction.Alu.TheVariants as alu
use Rattle.bl_x64.specs.declared.instruction.Extension.TheVariants as extension
use Rattle.bl_x64.specs.declared.instruction.Condition.{Condition}
use Rattle.bl_x64.specs.declared.instruction.Condition.TheVariants.{Below, Equal, NotEqual}
use Rattle.bl_x64.specs.declared.instruction.Address.{Address}
use Rattle.bl_x64.specs.declared.instruction.Place.{Place}
use Rattle.bl_x64.specs.declared.instruction.Place.TheVariants as place
use Rattle.bl_x64.specs.declared.instruction.Instruction.{Instruction}
use Rattle.bl_x64.specs.declared.instruction.Instruction.TheVariants as i
use Rattle.bl_select.specs.Shapes.{shape_of}
use Rattle.bl_select.specs.declared.location.Location.{Location}
use Rattle.bl_select.specs.declared.location.Location.TheVariants as location
use Rattle.bl_select.specs.declared.location.Source.{Source}
use Rattle.bl_select.specs.declared.location.Source.TheVariants.{At, Number}
use Rattle.bl_select.specs.declared.location.Shape.{Shape}
use Rattle.bl_select.specs.declared.location.Shape.TheVariants.{Alu, Multiply, Rotate, Compare, IsZero, Count, Extend, Same, Select, Outside, Divide}

-- ---- operands

-- the address at a displacement from a register
abbrev pub behind : Register → ℕ → Address
behind base displacement = record { base = base; index = None; displacement = displacement }

-- the operand that names a register
abbrev pub in_register : Register → Place
in_register r = place.Register r

-- the operand that names a location
abbrev pub place_of : Location → Place
place_of (location.Register r) = place.Register r
place_of (location.Slot displacement) = place.Memory (behind Rsp displacement)
place_of (location.Context displacement) = place.Memory (behind R15 displacement)

-- loads an operand of a size to a register, with zeros above it
abbrev pub load : Size → Register → Source → Instruction
load size to (At l) = i.Mov size to (place_of l)
load Long to (Number number) = i.Constant to (number % 2 ^ 32)
load Quad to (Number number) = i.Constant to number

-- writes RAX to a location
abbrev pub write : Location → Instruction
write (location.Register r) = i.Mov Quad r (place.Register Rax)
write (location.Slot displacement) = i.Store width.Quad (behind Rsp displacement) Rax
write (location.Context displacement) = i.Store width.Quad (behind R15 displacement) Rax

-- writes RAX to a location, with the fence of a protected command
abbrev pub finish : Bool → Location → List Instruction
finish false to = write to ∷ []
finish true to = write to ∷ i.Lfence ∷ []

-- ---- operators

-- an operation of two registers
abbrev pub alu_of : Operation → Size → Register → Register → Instruction
alu_of op size to from = i.Alu op size to (in_register from)

-- writes 1 to RAX if a condition holds, and 0 if it does not
abbrev pub truth_of : Condition → List Instruction
truth_of condition = i.SetIf condition Rax ∷ i.Extend extension.Zero8 Long Rax (in_register Rax) ∷ []

-- loads two operands to RAX and RCX
abbrev pub two_of : Size → Source → Source → List Instruction
two_of size a b = load size Rax a ∷ load size Rcx b ∷ []

-- writes the reach of an access (its offset plus its width), modulo 2 ^ 34, to RDX; RCX is overwritten unless the operand is a number
abbrev pub load_reach : Source → List Instruction
load_reach (Number number) = i.Constant Rdx (number % 2 ^ 34) ∷ []
load_reach (At l) = i.Mov Quad Rdx (place_of l) ∷ i.Constant Rcx (2 ^ 34 - 1) ∷ i.Alu alu.And Quad Rdx (in_register Rcx) ∷ []

-- a move if the last result was 0
abbrev pub chosen_of : Register → Register → Instruction
chosen_of to from = i.MoveIf Equal Quad to (in_register from)

-- if the divisor in RCX is 0, 0 is divided by 1 instead: DIV and IDIV fault for a divisor of 0
abbrev pub zero_guard : Size → List Instruction
zero_guard size =
    i.Constant Rdx 0 ∷ i.Test size Rcx Rcx ∷ i.MoveIf Equal Quad Rax (in_register Rdx) ∷ i.Constant Rdx 1 ∷ i.MoveIf Equal Quad Rcx (in_register Rdx) ∷ []

-- if the divisor is -1, the negated dividend is divided by 1 instead: IDIV faults for the least number divided by -1. Both operands are loaded
-- again
abbrev pub minus_guard : Size → Source → Source → List Instruction
minus_guard size a b =
    i.Constant Rdx 0 ∷ i.Alu alu.Sub size Rdx (in_register Rax) ∷ i.Constant Rax 1 ∷ i.Alu alu.Add size Rcx (in_register Rax)
    ∷ load size Rax a ∷ i.MoveIf Equal Quad Rax (in_register Rdx) ∷ load size Rcx b ∷ i.Constant Rdx 1 ∷ i.MoveIf Equal Quad Rcx (in_register Rdx) ∷ []

-- writes the upper half of the dividend to RDX, and divides by RCX
abbrev pub divide_by_rcx : Bool → Size → List Instruction
divide_by_rcx false size = i.Constant Rdx 0 ∷ i.Divide false size Rcx ∷ []
divide_by_rcx true size = i.FillSign size ∷ i.Divide true size Rcx ∷ []

-- moves the remainder to RAX, if the remainder is the result
abbrev pub take_rest : Bool → List Instruction
take_rest false = []
take_rest true = i.Mov Quad Rax (in_register Rdx) ∷ []

-- the guards of a division
abbrev pub guards : Bool → Size → Source → Source → List Instruction
guards false size a b = zero_guard size
guards true size a b = minus_guard size a b ++ zero_guard size

-- writes a quotient or a remainder to RAX
abbrev pub division_of : Bool → Bool → Size → Source → Source → List Instruction
division_of sign rest size a b = two_of size a b ++ (guards sign size a b ++ (divide_by_rcx sign size ++ take_rest rest))

-- writes the value of a shape to RAX
abbrev pub value : Shape → Source → Source → Source → List Instruction
value (Alu op size) a b c = load size Rax a ∷ load size Rcx b ∷ i.Alu op size Rax (in_register Rcx) ∷ []
value (Multiply size) a b c = load size Rax a ∷ load size Rcx b ∷ i.Imul size Rax (in_register Rcx) ∷ []
value (Rotate op size) a b c = load size Rax a ∷ load size Rcx b ∷ i.Rotate op size Rax ∷ []
value (Compare condition size) a b c =
    load size Rax a ∷ load size Rcx b ∷ i.Alu alu.Cmp size Rax (in_register Rcx) ∷ i.SetIf condition Rax ∷ i.Extend extension.Zero8 Long Rax (in_register Rax) ∷ []
value (IsZero size) a b c = load size Rax a ∷ i.Test size Rax Rax ∷ i.SetIf Equal Rax ∷ i.Extend extension.Zero8 Long Rax (in_register Rax) ∷ []
value (Count op size) a b c = load size Rax a ∷ i.Count op size Rax (in_register Rax) ∷ []
value (Extend how size) a b c = load Quad Rax a ∷ i.Extend how size Rax (in_register Rax) ∷ []
value (Same size) a b c = load size Rax a ∷ []
value Select a b c =
    load Quad Rax a ∷ load Quad Rcx b ∷ load Long Rdx c ∷ i.Test Long Rdx Rdx ∷ i.MoveIf Equal Quad Rax (in_register Rcx) ∷ []
value Outside a b c =
    load_reach c ++ load Long Rax a ∷ i.Alu alu.Add Quad Rax (in_register Rdx) ∷ load Long Rcx b ∷ i.Constant Rdx 65536
    ∷ i.Imul Quad Rcx (in_register Rdx) ∷ i.Alu alu.Cmp Quad Rcx (in_register Rax) ∷ i.SetIf Below Rax
    ∷ i.Extend extension.Zero8 Long Rax (in_register Rax) ∷ []
value (Divide sign rest size) a b c = division_of sign rest size a b

-- a Set
abbrev pub set_template : Bool → Op → Location → Source → Source → Source → List Instruction
set_template protect op to a b c = value (shape_of op) a b c ++ finish protect to

-- ---- accesses

-- writes the beginning of an access, relative to the bytes of all memories, to RAX
abbrev pub address : Source → ℕ → List Instruction
address a offset = load Long Rax a ∷ i.Constant Rcx offset ∷ i.Alu alu.Add Quad Rax (in_register Rcx) ∷ []

-- the operand that names the first byte of an access
abbrev pub accessed : Address
accessed = record { base = R14; index = Some Rax; displacement = 0 }

-- loads the bytes of an access of a kind to RAX
abbrev pub load_from : AccessKind → Instruction
load_from I32Load = i.Mov Long Rax (place.Memory accessed)
load_from I64Load = i.Mov Quad Rax (place.Memory accessed)
load_from I32Load8S = i.Extend extension.Sign8 Long Rax (place.Memory accessed)
load_from I32Load8U = i.Extend extension.Zero8 Long Rax (place.Memory accessed)
load_from I32Load16S = i.Extend extension.Sign16 Long Rax (place.Memory accessed)
load_from I32Load16U = i.Extend extension.Zero16 Long Rax (place.Memory accessed)
load_from I64Load8S = i.Extend extension.Sign8 Quad Rax (place.Memory accessed)
load_from I64Load8U = i.Extend extension.Zero8 Quad Rax (place.Memory accessed)
load_from I64Load16S = i.Extend extension.Sign16 Quad Rax (place.Memory accessed)
load_from I64Load16U = i.Extend extension.Zero16 Quad Rax (place.Memory accessed)
load_from I64Load32S = i.Extend extension.Sign32 Quad Rax (place.Memory accessed)
load_from I64Load32U = i.Mov Long Rax (place.Memory accessed)
load_from kind = i.Mov Quad Rax (place.Memory accessed)

-- stores RCX by an access of a kind
abbrev pub store_to : AccessKind → Instruction
store_to I32Store = i.Store width.Long accessed Rcx
store_to I64Store = i.Store width.Quad accessed Rcx
store_to I32Store8 = i.Store width.Byte accessed Rcx
store_to I32Store16 = i.Store width.Word accessed Rcx
store_to I64Store8 = i.Store width.Byte accessed Rcx
store_to I64Store16 = i.Store width.Word accessed Rcx
store_to I64Store32 = i.Store width.Long accessed Rcx
store_to kind = i.Store width.Quad accessed Rcx

-- a Load: the offset includes the place at which its memory begins among the bytes of all memories
abbrev pub load_template : Bool → AccessKind → Location → ℕ → Source → List Instruction
load_template protect kind to offset a = address a offset ++ load_from kind ∷ finish protect to

-- a Store of the operand b at the address a
abbrev pub store_template : AccessKind → ℕ → Source → Source → List Instruction
store_template kind offset a b = address a offset ++ load Quad Rcx b ∷ store_to kind ∷ []

-- ---- branches, whose targets are the numbers of instructions

-- a Test: to the first target if the operand is not 0 modulo 2 ^ 32, and to the second if it is
abbrev pub test_template : Source → ℕ → ℕ → List Instruction
test_template condition one other =
    load Long Rax condition ∷ i.Test Long Rax Rax ∷ i.JumpIf NotEqual one ∷ i.Jump other ∷ []

-- a Jump
abbrev pub jump_template : ℕ → List Instruction
jump_template to = i.Jump to ∷ []
