-- The shape of each operator: the kind of instructions that compute it. The value of each shape is defined here too; a lemma shows that it is the
-- value of the operator (`Shapes`, proofs/).
use Rattle.std.specs.Prelude.{ℕ, ◌+◌, ◌*◌, ◌%◌, ◌^◌, ◌==◌, Bool, true, false, not, nat_lt, nat_le, if◌then◌else◌, int_lt, int_le}
use Rattle.bl_ops.specs.Integer.{truth, signed, idiv_u, idiv_s, irem_u, irem_s}
use Rattle.bl_ops.specs.declared.op.Op.{Op}
use Rattle.bl_ops.specs.declared.op.Op.TheVariants as op
use Rattle.bl_x64.specs.Registers.{bits_of}
use Rattle.bl_x64.specs.Operations.{alu_result, imul_result, rotation_result, count_result, extended_bytes, extension_result}
use Rattle.bl_x64.specs.declared.instruction.Size.{Size}
use Rattle.bl_x64.specs.declared.instruction.Size.TheVariants.{Long, Quad}
use Rattle.bl_x64.specs.declared.instruction.Alu.TheVariants as alu
use Rattle.bl_x64.specs.declared.instruction.Rotation.TheVariants as rotation
use Rattle.bl_x64.specs.declared.instruction.Count.TheVariants as count
use Rattle.bl_x64.specs.declared.instruction.Extension.TheVariants as extension
use Rattle.bl_x64.specs.declared.instruction.Condition.{Condition}
use Rattle.bl_x64.specs.declared.instruction.Condition.TheVariants.{Below, AboveOrEqual, Equal, NotEqual, BelowOrEqual, Above, Less, GreaterOrEqual, LessOrEqual, Greater}
use Rattle.bl_select.specs.declared.location.Shape.{Shape}
use Rattle.bl_select.specs.declared.location.Shape.TheVariants.{Alu, Multiply, Rotate, Compare, IsZero, Count, Extend, Same, Select, Outside, Divide}

-- the shape of an operator
abbrev pub shape_of : Op → Shape
shape_of op.I32Eqz = IsZero Long
shape_of op.I32Eq = Compare Equal Long
shape_of op.I32Ne = Compare NotEqual Long
shape_of op.I32LtS = Compare Less Long
shape_of op.I32LtU = Compare Below Long
shape_of op.I32GtS = Compare Greater Long
shape_of op.I32GtU = Compare Above Long
shape_of op.I32LeS = Compare LessOrEqual Long
shape_of op.I32LeU = Compare BelowOrEqual Long
shape_of op.I32GeS = Compare GreaterOrEqual Long
shape_of op.I32GeU = Compare AboveOrEqual Long
shape_of op.I64Eqz = IsZero Quad
shape_of op.I64Eq = Compare Equal Quad
shape_of op.I64Ne = Compare NotEqual Quad
shape_of op.I64LtS = Compare Less Quad
shape_of op.I64LtU = Compare Below Quad
shape_of op.I64GtS = Compare Greater Quad
shape_of op.I64GtU = Compare Above Quad
shape_of op.I64LeS = Compare LessOrEqual Quad
shape_of op.I64LeU = Compare BelowOrEqual Quad
shape_of op.I64GeS = Compare GreaterOrEqual Quad
shape_of op.I64GeU = Compare AboveOrEqual Quad
shape_of op.I32Clz = Count count.Lzcnt Long
shape_of op.I32Ctz = Count count.Tzcnt Long
shape_of op.I32Popcnt = Count count.Popcnt Long
shape_of op.I32Add = Alu alu.Add Long
shape_of op.I32Sub = Alu alu.Sub Long
shape_of op.I32Mul = Multiply Long
shape_of op.I32DivS = Divide true false Long
shape_of op.I32DivU = Divide false false Long
shape_of op.I32RemS = Divide true true Long
shape_of op.I32RemU = Divide false true Long
shape_of op.I32And = Alu alu.And Long
shape_of op.I32Or = Alu alu.Or Long
shape_of op.I32Xor = Alu alu.Xor Long
shape_of op.I32Shl = Rotate rotation.Shl Long
shape_of op.I32ShrS = Rotate rotation.Sar Long
shape_of op.I32ShrU = Rotate rotation.Shr Long
shape_of op.I32Rotl = Rotate rotation.Rol Long
shape_of op.I32Rotr = Rotate rotation.Ror Long
shape_of op.I64Clz = Count count.Lzcnt Quad
shape_of op.I64Ctz = Count count.Tzcnt Quad
shape_of op.I64Popcnt = Count count.Popcnt Quad
shape_of op.I64Add = Alu alu.Add Quad
shape_of op.I64Sub = Alu alu.Sub Quad
shape_of op.I64Mul = Multiply Quad
shape_of op.I64DivS = Divide true false Quad
shape_of op.I64DivU = Divide false false Quad
shape_of op.I64RemS = Divide true true Quad
shape_of op.I64RemU = Divide false true Quad
shape_of op.I64And = Alu alu.And Quad
shape_of op.I64Or = Alu alu.Or Quad
shape_of op.I64Xor = Alu alu.Xor Quad
shape_of op.I64Shl = Rotate rotation.Shl Quad
shape_of op.I64ShrS = Rotate rotation.Sar Quad
shape_of op.I64ShrU = Rotate rotation.Shr Quad
shape_of op.I64Rotl = Rotate rotation.Rol Quad
shape_of op.I64Rotr = Rotate rotation.Ror Quad
shape_of op.I32WrapI64 = Same Long
shape_of op.I64ExtendI32S = Extend extension.Sign32 Quad
shape_of op.I64ExtendI32U = Same Long
shape_of op.I32Extend8S = Extend extension.Sign8 Long
shape_of op.I32Extend16S = Extend extension.Sign16 Long
shape_of op.I64Extend8S = Extend extension.Sign8 Quad
shape_of op.I64Extend16S = Extend extension.Sign16 Quad
shape_of op.I64Extend32S = Extend extension.Sign32 Quad
shape_of op.Move = Same Quad
shape_of op.Select = Select
shape_of op.Outside = Outside

-- the shapes of divisions
abbrev pub divides : Shape → Bool
divides (Divide sign rest size) = true
divides shape = false

-- the number in the lowest bits of a register
abbrev pub at_size : Size → ℕ → ℕ
at_size Long a = a % 2 ^ 32
at_size Quad a = a

-- whether a condition holds after CMP of two numbers of n bits
abbrev pub compares : Condition → ℕ → ℕ → ℕ → Bool
compares Below n a b = nat_lt a b
compares AboveOrEqual n a b = nat_le b a
compares Equal n a b = a == b
compares NotEqual n a b = not (a == b)
compares BelowOrEqual n a b = nat_le a b
compares Above n a b = nat_lt b a
compares Less n a b = int_lt (signed n a) (signed n b)
compares GreaterOrEqual n a b = int_le (signed n b) (signed n a)
compares LessOrEqual n a b = int_le (signed n a) (signed n b)
compares Greater n a b = int_lt (signed n b) (signed n a)

-- a quotient or a remainder; both are 0 if the divisor is 0
abbrev pub division : Bool → Bool → ℕ → ℕ → ℕ → ℕ
division true false n a b = idiv_s n a b
division true true n a b = irem_s n a b
division false false n a b = idiv_u n a b
division false true n a b = irem_u n a b

-- the value of a shape for three operands of 64 bits
abbrev pub value_of : Shape → ℕ → ℕ → ℕ → ℕ
value_of (Alu op size) a b c = alu_result op (bits_of size) (at_size size a) (at_size size b)
value_of (Multiply size) a b c = imul_result (bits_of size) (at_size size a) (at_size size b)
value_of (Rotate op size) a b c = rotation_result op (bits_of size) (at_size size a) (at_size size b)
value_of (Compare condition size) a b c = truth (compares condition (bits_of size) (at_size size a) (at_size size b))
value_of (IsZero size) a b c = truth (at_size size a == 0)
value_of (Count op size) a b c = count_result op (bits_of size) (at_size size a)
value_of (Extend how size) a b c = extension_result how (bits_of size) (a % 2 ^ (8 * extended_bytes how))
value_of (Same size) a b c = at_size size a
value_of Select a b c = if c % 2 ^ 32 == 0 then b else a
value_of Outside a b c = truth (nat_lt (b % 2 ^ 32 * 65536) (a % 2 ^ 32 + c % 2 ^ 34))
value_of (Divide sign rest size) a b c = division sign rest (bits_of size) (at_size size a) (at_size size b)
