-- What the operators mean, and where they trap (WebAssembly 1.0, sections 4.3.2 and 4.4.1). Operands are below 2 ^ 64.
use Rattle.std.specs.Prelude.{ℕ, ◌+◌, ◌-◌, ◌*◌, ◌%◌, ◌^◌, ◌==◌, ◌&&◌, nat_lt, if◌then◌else◌, Option, Some, None}
use Rattle.bl_base.specs.declared.trap.Trap.{Trap}
use Rattle.bl_base.specs.declared.trap.Trap.TheVariants.{DivideByZero, Overflow}
use Rattle.bl_ops.specs.Integer.{truth, iadd, isub, imul, idiv_u, idiv_s, irem_u, irem_s, iand, ior, ixor, ishl, ishr_u, ishr_s, irotl, irotr, iclz, ictz, ipopcnt, ieqz, ieq, ine, ilt_s, ilt_u, igt_s, igt_u, ile_s, ile_u, ige_s, ige_u, iwrap, iextend_s, iextend_u}
use Rattle.bl_ops.specs.declared.op.Op.{Op}
use Rattle.bl_ops.specs.declared.op.Op.TheVariants.{I32Eqz, I32Eq, I32Ne, I32LtS, I32LtU, I32GtS, I32GtU, I32LeS, I32LeU, I32GeS, I32GeU, I64Eqz, I64Eq, I64Ne, I64LtS, I64LtU, I64GtS, I64GtU, I64LeS, I64LeU, I64GeS, I64GeU, I32Clz, I32Ctz, I32Popcnt, I32Add, I32Sub, I32Mul, I32DivS, I32DivU, I32RemS, I32RemU, I32And, I32Or, I32Xor, I32Shl, I32ShrS, I32ShrU, I32Rotl, I32Rotr, I64Clz, I64Ctz, I64Popcnt, I64Add, I64Sub, I64Mul, I64DivS, I64DivU, I64RemS, I64RemU, I64And, I64Or, I64Xor, I64Shl, I64ShrS, I64ShrU, I64Rotl, I64Rotr, I32WrapI64, I64ExtendI32S, I64ExtendI32U, I32Extend8S, I32Extend16S, I64Extend8S, I64Extend16S, I64Extend32S, Move, Select, Outside}

-- the first operand where the third, an i32, isn't 0, else the second (section 4.4.2)
abbrev pub select : ℕ → ℕ → ℕ → ℕ
select a b c = if c % 2 ^ 32 == 0 then b else a

-- 1 where an access that reaches so far from an address ends beyond so many pages of 65,536 bytes
abbrev pub outside : ℕ → ℕ → ℕ → ℕ
outside address pages reach = truth (nat_lt (pages % 2 ^ 32 * 65536) (address % 2 ^ 32 + reach % 2 ^ 34))

-- the number that an operator gives: at i32 operands are taken modulo 2 ^ 32
unfoldable pub meaning : Op → ℕ → ℕ → ℕ → ℕ
meaning I32Eqz a b c = ieqz 32 (a % 2 ^ 32)
meaning I32Eq a b c = ieq 32 (a % 2 ^ 32) (b % 2 ^ 32)
meaning I32Ne a b c = ine 32 (a % 2 ^ 32) (b % 2 ^ 32)
meaning I32LtS a b c = ilt_s 32 (a % 2 ^ 32) (b % 2 ^ 32)
meaning I32LtU a b c = ilt_u 32 (a % 2 ^ 32) (b % 2 ^ 32)
meaning I32GtS a b c = igt_s 32 (a % 2 ^ 32) (b % 2 ^ 32)
meaning I32GtU a b c = igt_u 32 (a % 2 ^ 32) (b % 2 ^ 32)
meaning I32LeS a b c = ile_s 32 (a % 2 ^ 32) (b % 2 ^ 32)
meaning I32LeU a b c = ile_u 32 (a % 2 ^ 32) (b % 2 ^ 32)
meaning I32GeS a b c = ige_s 32 (a % 2 ^ 32) (b % 2 ^ 32)
meaning I32GeU a b c = ige_u 32 (a % 2 ^ 32) (b % 2 ^ 32)
meaning I64Eqz a b c = ieqz 64 a
meaning I64Eq a b c = ieq 64 a b
meaning I64Ne a b c = ine 64 a b
meaning I64LtS a b c = ilt_s 64 a b
meaning I64LtU a b c = ilt_u 64 a b
meaning I64GtS a b c = igt_s 64 a b
meaning I64GtU a b c = igt_u 64 a b
meaning I64LeS a b c = ile_s 64 a b
meaning I64LeU a b c = ile_u 64 a b
meaning I64GeS a b c = ige_s 64 a b
meaning I64GeU a b c = ige_u 64 a b
meaning I32Clz a b c = iclz 32 (a % 2 ^ 32)
meaning I32Ctz a b c = ictz 32 (a % 2 ^ 32)
meaning I32Popcnt a b c = ipopcnt 32 (a % 2 ^ 32)
meaning I32Add a b c = iadd 32 (a % 2 ^ 32) (b % 2 ^ 32)
meaning I32Sub a b c = isub 32 (a % 2 ^ 32) (b % 2 ^ 32)
meaning I32Mul a b c = imul 32 (a % 2 ^ 32) (b % 2 ^ 32)
meaning I32DivS a b c = idiv_s 32 (a % 2 ^ 32) (b % 2 ^ 32)
meaning I32DivU a b c = idiv_u 32 (a % 2 ^ 32) (b % 2 ^ 32)
meaning I32RemS a b c = irem_s 32 (a % 2 ^ 32) (b % 2 ^ 32)
meaning I32RemU a b c = irem_u 32 (a % 2 ^ 32) (b % 2 ^ 32)
meaning I32And a b c = iand 32 (a % 2 ^ 32) (b % 2 ^ 32)
meaning I32Or a b c = ior 32 (a % 2 ^ 32) (b % 2 ^ 32)
meaning I32Xor a b c = ixor 32 (a % 2 ^ 32) (b % 2 ^ 32)
meaning I32Shl a b c = ishl 32 (a % 2 ^ 32) (b % 2 ^ 32)
meaning I32ShrS a b c = ishr_s 32 (a % 2 ^ 32) (b % 2 ^ 32)
meaning I32ShrU a b c = ishr_u 32 (a % 2 ^ 32) (b % 2 ^ 32)
meaning I32Rotl a b c = irotl 32 (a % 2 ^ 32) (b % 2 ^ 32)
meaning I32Rotr a b c = irotr 32 (a % 2 ^ 32) (b % 2 ^ 32)
meaning I64Clz a b c = iclz 64 a
meaning I64Ctz a b c = ictz 64 a
meaning I64Popcnt a b c = ipopcnt 64 a
meaning I64Add a b c = iadd 64 a b
meaning I64Sub a b c = isub 64 a b
meaning I64Mul a b c = imul 64 a b
meaning I64DivS a b c = idiv_s 64 a b
meaning I64DivU a b c = idiv_u 64 a b
meaning I64RemS a b c = irem_s 64 a b
meaning I64RemU a b c = irem_u 64 a b
meaning I64And a b c = iand 64 a b
meaning I64Or a b c = ior 64 a b
meaning I64Xor a b c = ixor 64 a b
meaning I64Shl a b c = ishl 64 a b
meaning I64ShrS a b c = ishr_s 64 a b
meaning I64ShrU a b c = ishr_u 64 a b
meaning I64Rotl a b c = irotl 64 a b
meaning I64Rotr a b c = irotr 64 a b
meaning I32WrapI64 a b c = iwrap 32 a
meaning I64ExtendI32S a b c = iextend_s 32 64 (a % 2 ^ 32)
meaning I64ExtendI32U a b c = iextend_u 32 64 (a % 2 ^ 32)
meaning I32Extend8S a b c = iextend_s 8 32 (a % 2 ^ 8)
meaning I32Extend16S a b c = iextend_s 16 32 (a % 2 ^ 16)
meaning I64Extend8S a b c = iextend_s 8 64 (a % 2 ^ 8)
meaning I64Extend16S a b c = iextend_s 16 64 (a % 2 ^ 16)
meaning I64Extend32S a b c = iextend_s 32 64 (a % 2 ^ 32)
meaning Move a b c = a
meaning Select a b c = select a b c
meaning Outside a b c = outside a b c

-- a quotient or remainder by zero is undefined
abbrev pub by_zero : ℕ → Option Trap
by_zero b = if b == 0 then Some DivideByZero else None

-- and so is the signed quotient of the least number, 2 ^ (n - 1), by -1, 2 ^ n - 1
abbrev pub undefined_div_s : ℕ → ℕ → ℕ → Option Trap
undefined_div_s n a b = if b == 0 then Some DivideByZero else (if a == 2 ^ (n - 1) && b == 2 ^ n - 1 then Some Overflow else None)

-- the trap where an operator is undefined
unfoldable pub traps : Op → ℕ → ℕ → Option Trap
traps I32DivS a b = undefined_div_s 32 (a % 2 ^ 32) (b % 2 ^ 32)
traps I32DivU a b = by_zero (b % 2 ^ 32)
traps I32RemS a b = by_zero (b % 2 ^ 32)
traps I32RemU a b = by_zero (b % 2 ^ 32)
traps I64DivS a b = undefined_div_s 64 a b
traps I64DivU a b = by_zero b
traps I64RemS a b = by_zero b
traps I64RemU a b = by_zero b
traps op a b = None
