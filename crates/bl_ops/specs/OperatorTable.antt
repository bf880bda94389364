-- The operators' codes, operands and types, and which of them divide (WebAssembly 1.0, sections 2.4.1 and 5.4.5; the extensions by sign, version 2.0).
use Rattle.std.specs.Prelude.{ℕ, Bool, true, false, ◌&&◌, nat_lt, ◌==◌, List, [], ◌∷◌, filter_map, find, Option, Some, None, option_map, unwrap_or}
use Rattle.bl_base.specs.declared.names.ValueType.{ValueType}
use Rattle.bl_base.specs.declared.names.ValueType.TheVariants.{I32, I64}
use Rattle.bl_ops.specs.declared.op.Op.{Op}
use Rattle.bl_ops.specs.declared.op.Op.TheVariants.{I32Eqz, I32Eq, I32Ne, I32LtS, I32LtU, I32GtS, I32GtU, I32LeS, I32LeU, I32GeS, I32GeU, I64Eqz, I64Eq, I64Ne, I64LtS, I64LtU, I64GtS, I64GtU, I64LeS, I64LeU, I64GeS, I64GeU, I32Clz, I32Ctz, I32Popcnt, I32Add, I32Sub, I32Mul, I32DivS, I32DivU, I32RemS, I32RemU, I32And, I32Or, I32Xor, I32Shl, I32ShrS, I32ShrU, I32Rotl, I32Rotr, I64Clz, I64Ctz, I64Popcnt, I64Add, I64Sub, I64Mul, I64DivS, I64DivU, I64RemS, I64RemU, I64And, I64Or, I64Xor, I64Shl, I64ShrS, I64ShrU, I64Rotl, I64Rotr, I32WrapI64, I64ExtendI32S, I64ExtendI32U, I32Extend8S, I32Extend16S, I64Extend8S, I64Extend16S, I64Extend32S, Move, Select, Outside}
use Rattle.bl_ops.specs.declared.op.OpRow.{OpRow}

-- the row of an operator of one operand: its code, the type of the operand, the type of the result
abbrev pub unary : ℕ → ValueType → ValueType → Option OpRow
unary code from to = Some (record { code = code; operands = 1; from = from; to = to })

-- the row of an operator of two operands of one type
abbrev pub binary : ℕ → ValueType → ValueType → Option OpRow
binary code from to = Some (record { code = code; operands = 2; from = from; to = to })

-- the number of operands that a row tells, 0 where there is none
abbrev pub row_operands : Option OpRow → ℕ
row_operands None = 0
row_operands (Some row) = row.operands

-- the row of an integer operator
abbrev pub row_of : Op → Option OpRow
row_of I32Eqz = unary 0x45 I32 I32
row_of I32Eq = binary 0x46 I32 I32
row_of I32Ne = binary 0x47 I32 I32
row_of I32LtS = binary 0x48 I32 I32
row_of I32LtU = binary 0x49 I32 I32
row_of I32GtS = binary 0x4A I32 I32
row_of I32GtU = binary 0x4B I32 I32
row_of I32LeS = binary 0x4C I32 I32
row_of I32LeU = binary 0x4D I32 I32
row_of I32GeS = binary 0x4E I32 I32
row_of I32GeU = binary 0x4F I32 I32
row_of I64Eqz = unary 0x50 I64 I32
row_of I64Eq = binary 0x51 I64 I32
row_of I64Ne = binary 0x52 I64 I32
row_of I64LtS = binary 0x53 I64 I32
row_of I64LtU = binary 0x54 I64 I32
row_of I64GtS = binary 0x55 I64 I32
row_of I64GtU = binary 0x56 I64 I32
row_of I64LeS = binary 0x57 I64 I32
row_of I64LeU = binary 0x58 I64 I32
row_of I64GeS = binary 0x59 I64 I32
row_of I64GeU = binary 0x5A I64 I32
row_of I32Clz = unary 0x67 I32 I32
row_of I32Ctz = unary 0x68 I32 I32
row_of I32Popcnt = unary 0x69 I32 I32
row_of I32Add = binary 0x6A I32 I32
row_of I32Sub = binary 0x6B I32 I32
row_of I32Mul = binary 0x6C I32 I32
row_of I32DivS = binary 0x6D I32 I32
row_of I32DivU = binary 0x6E I32 I32
row_of I32RemS = binary 0x6F I32 I32
row_of I32RemU = binary 0x70 I32 I32
row_of I32And = binary 0x71 I32 I32
row_of I32Or = binary 0x72 I32 I32
row_of I32Xor = binary 0x73 I32 I32
row_of I32Shl = binary 0x74 I32 I32
row_of I32ShrS = binary 0x75 I32 I32
row_of I32ShrU = binary 0x76 I32 I32
row_of I32Rotl = binary 0x77 I32 I32
row_of I32Rotr = binary 0x78 I32 I32
row_of I64Clz = unary 0x79 I64 I64
row_of I64Ctz = unary 0x7A I64 I64
row_of I64Popcnt = unary 0x7B I64 I64
row_of I64Add = binary 0x7C I64 I64
row_of I64Sub = binary 0x7D I64 I64
row_of I64Mul = binary 0x7E I64 I64
row_of I64DivS = binary 0x7F I64 I64
row_of I64DivU = binary 0x80 I64 I64
row_of I64RemS = binary 0x81 I64 I64
row_of I64RemU = binary 0x82 I64 I64
row_of I64And = binary 0x83 I64 I64
row_of I64Or = binary 0x84 I64 I64
row_of I64Xor = binary 0x85 I64 I64
row_of I64Shl = binary 0x86 I64 I64
row_of I64ShrS = binary 0x87 I64 I64
row_of I64ShrU = binary 0x88 I64 I64
row_of I64Rotl = binary 0x89 I64 I64
row_of I64Rotr = binary 0x8A I64 I64
row_of I32WrapI64 = unary 0xA7 I64 I32
row_of I64ExtendI32S = unary 0xAC I32 I64
row_of I64ExtendI32U = unary 0xAD I32 I64
row_of I32Extend8S = unary 0xC0 I32 I32
row_of I32Extend16S = unary 0xC1 I32 I32
row_of I64Extend8S = unary 0xC2 I64 I64
row_of I64Extend16S = unary 0xC3 I64 I64
row_of I64Extend32S = unary 0xC4 I64 I64
row_of Move = None
row_of Select = None
row_of Outside = None

-- quotients and remainders
abbrev pub is_division : Op → Bool
is_division I32DivS = true
is_division I32DivU = true
is_division I32RemS = true
is_division I32RemU = true
is_division I64DivS = true
is_division I64DivU = true
is_division I64RemS = true
is_division I64RemU = true
is_division op = false

-- the code of an integer operator
abbrev pub operator_code : Op → Option ℕ
operator_code op = option_map (λ row. row.code) (row_of op)

-- the code of an operator in an image: that of an integer operator is its own
abbrev pub image_code_of : Op → ℕ
image_code_of Move = 0x00
image_code_of Outside = 0x01
image_code_of Select = 0x1B
image_code_of op = unwrap_or (operator_code op) 0

-- the integer operators in the order of their codes
abbrev pub operators : List Op
operators = I32Eqz ∷ I32Eq ∷ I32Ne ∷ I32LtS ∷ I32LtU ∷ I32GtS ∷ I32GtU ∷ I32LeS ∷ I32LeU ∷ I32GeS ∷ I32GeU ∷ I64Eqz ∷ I64Eq ∷ I64Ne ∷
    I64LtS ∷ I64LtU ∷ I64GtS ∷ I64GtU ∷ I64LeS ∷ I64LeU ∷ I64GeS ∷ I64GeU ∷ I32Clz ∷ I32Ctz ∷ I32Popcnt ∷ I32Add ∷ I32Sub ∷ I32Mul ∷
    I32DivS ∷ I32DivU ∷ I32RemS ∷ I32RemU ∷ I32And ∷ I32Or ∷ I32Xor ∷ I32Shl ∷ I32ShrS ∷ I32ShrU ∷ I32Rotl ∷ I32Rotr ∷ I64Clz ∷ I64Ctz ∷
    I64Popcnt ∷ I64Add ∷ I64Sub ∷ I64Mul ∷ I64DivS ∷ I64DivU ∷ I64RemS ∷ I64RemU ∷ I64And ∷ I64Or ∷ I64Xor ∷ I64Shl ∷ I64ShrS ∷
    I64ShrU ∷ I64Rotl ∷ I64Rotr ∷ I32WrapI64 ∷ I64ExtendI32S ∷ I64ExtendI32U ∷ I32Extend8S ∷ I32Extend16S ∷ I64Extend8S ∷ I64Extend16S ∷
    I64Extend32S ∷ []

-- the rows in the order of their codes
abbrev pub rows : List OpRow
rows = filter_map row_of operators

-- each number is below the one after it
abbrev pub rise : List ℕ → Bool
rise [] = true
rise (x ∷ []) = true
rise (x ∷ y ∷ rest) = nat_lt x y && rise (y ∷ rest)

-- the integer operator of a code, where there is one
abbrev pub operator_of : ℕ → Option Op
operator_of code = find (λ op. image_code_of op == code) operators

-- the operator of a code in an image, where there is one
abbrev pub image_operator_of : ℕ → Option Op
image_operator_of code = find (λ op. image_code_of op == code) (Move ∷ Select ∷ Outside ∷ operators)
