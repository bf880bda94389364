-- What the kinds of each group of operators mean, over numbers of n bits.
use Rattle.std.specs.Prelude.{ℕ, ◌%◌, ◌^◌, Option}
use Rattle.bl_base.specs.declared.trap.Trap.{Trap}
use Rattle.bl_ops.specs.Integer.{iadd, isub, imul, idiv_u, idiv_s, irem_u, irem_s, iand, ior, ixor, ishl, ishr_u, ishr_s, irotl, irotr, ieqz, iclz, ictz, ipopcnt, ieq, ine, ilt_s, ilt_u, igt_s, igt_u, ile_s, ile_u, ige_s, ige_u, iwrap, iextend_s, iextend_u}
use Rattle.bl_ops.specs.Numerics.{by_zero, undefined_div_s}
use Rattle.bl_ops.specs.declared.group.Arithmetic.{Arithmetic}
use Rattle.bl_ops.specs.declared.group.Arithmetic.TheVariants.{Add, Sub, Mul}
use Rattle.bl_ops.specs.declared.group.Division.{Division}
use Rattle.bl_ops.specs.declared.group.Division.TheVariants.{DivS, DivU, RemS, RemU}
use Rattle.bl_ops.specs.declared.group.Bitwise.{Bitwise}
use Rattle.bl_ops.specs.declared.group.Bitwise.TheVariants.{And, Or, Xor}
use Rattle.bl_ops.specs.declared.group.Shift.{Shift}
use Rattle.bl_ops.specs.declared.group.Shift.TheVariants.{Shl, ShrS, ShrU, Rotl, Rotr}
use Rattle.bl_ops.specs.declared.group.Unary.{Unary}
use Rattle.bl_ops.specs.declared.group.Unary.TheVariants.{Eqz, Clz, Ctz, Popcnt}
use Rattle.bl_ops.specs.declared.group.Comparison.{Comparison}
use Rattle.bl_ops.specs.declared.group.Comparison.TheVariants.{Eq, Ne, LtS, LtU, GtS, GtU, LeS, LeU, GeS, GeU}
use Rattle.bl_ops.specs.declared.group.Conversion.{Conversion}
use Rattle.bl_ops.specs.declared.group.Conversion.TheVariants.{Wrap, ExtendS, ExtendU}
use Rattle.bl_ops.specs.declared.group.Extension.{Extension}
use Rattle.bl_ops.specs.declared.group.Extension.TheVariants.{Low8, Low16, Low32}

-- sums and products
abbrev pub arithmetic : Arithmetic → ℕ → ℕ → ℕ → ℕ
arithmetic Add n a b = iadd n a b
arithmetic Sub n a b = isub n a b
arithmetic Mul n a b = imul n a b

-- quotients and remainders
abbrev pub division : Division → ℕ → ℕ → ℕ → ℕ
division DivS n a b = idiv_s n a b
division DivU n a b = idiv_u n a b
division RemS n a b = irem_s n a b
division RemU n a b = irem_u n a b

-- what is done bit by bit
abbrev pub bitwise : Bitwise → ℕ → ℕ → ℕ → ℕ
bitwise And n a b = iand n a b
bitwise Or n a b = ior n a b
bitwise Xor n a b = ixor n a b

-- shifts and rotations
abbrev pub shift : Shift → ℕ → ℕ → ℕ → ℕ
shift Shl n a b = ishl n a b
shift ShrS n a b = ishr_s n a b
shift ShrU n a b = ishr_u n a b
shift Rotl n a b = irotl n a b
shift Rotr n a b = irotr n a b

-- the test for zero, and counts of bits
abbrev pub unary : Unary → ℕ → ℕ → ℕ
unary Eqz n a = ieqz n a
unary Clz n a = iclz n a
unary Ctz n a = ictz n a
unary Popcnt n a = ipopcnt n a

-- comparisons
abbrev pub comparison : Comparison → ℕ → ℕ → ℕ → ℕ
comparison Eq n a b = ieq n a b
comparison Ne n a b = ine n a b
comparison LtS n a b = ilt_s n a b
comparison LtU n a b = ilt_u n a b
comparison GtS n a b = igt_s n a b
comparison GtU n a b = igt_u n a b
comparison LeS n a b = ile_s n a b
comparison LeU n a b = ile_u n a b
comparison GeS n a b = ige_s n a b
comparison GeU n a b = ige_u n a b

-- between i32 and i64
abbrev pub conversion : Conversion → ℕ → ℕ
conversion Wrap a = iwrap 32 a
conversion ExtendS a = iextend_s 32 64 (a % 2 ^ 32)
conversion ExtendU a = iextend_u 32 64 (a % 2 ^ 32)

-- the lowest bits, extended by their sign to n bits
abbrev pub extension : Extension → ℕ → ℕ → ℕ
extension Low8 n a = iextend_s 8 n (a % 2 ^ 8)
extension Low16 n a = iextend_s 16 n (a % 2 ^ 16)
extension Low32 n a = iextend_s 32 n (a % 2 ^ 32)

-- where a quotient or a remainder is undefined
abbrev pub undefined : Division → ℕ → ℕ → ℕ → Option Trap
undefined DivS n a b = undefined_div_s n a b
undefined DivU n a b = by_zero b
undefined RemS n a b = by_zero b
undefined RemU n a b = by_zero b
