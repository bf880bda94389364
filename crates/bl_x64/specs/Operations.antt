-- The results of operations on n bits, and what they do to the flags. Each heading names the pages of volume 2 of the manual. Operands are
-- below 2 ^ n, and n is 32 or 64. Differences from the manual:
-- - PF and AF are not part of this model, since none of this crate's conditions reads them.
-- - A flag is None if the manual leaves it undefined. A jump, SETcc or CMOVcc that reads such a flag has no step (`holds`).
-- - CF and OF are None after a shift or a rotation by a count that is not 0, although the manual defines CF, and OF for a count of 1. This
--   definition promises less than the manual.
use Rattle.std.specs.Prelude.{ℕ, ◌+◌, ◌-◌, ◌*◌, ◌/◌, ◌%◌, ◌^◌, ◌==◌, Bool, true, false, not, ◌&&◌, ◌||◌, nat_lt, nat_eq, if◌then◌else◌, Option, Some, None, option_map, ℤ, pos, ◌+ℤ◌, ◌-ℤ◌, ◌*ℤ◌, int_lt, int_le}
use Rattle.bl_ops.specs.Integer.{signed, iand, ior, ixor, ishl, ishr_u, ishr_s, irotl, irotr, iclz, ictz, ipopcnt, iextend_s}
use Rattle.bl_x64.specs.declared.instruction.Alu.{Alu}
use Rattle.bl_x64.specs.declared.instruction.Alu.TheVariants.{Add, Or, And, Sub, Xor, Cmp}
use Rattle.bl_x64.specs.declared.instruction.Rotation.{Rotation}
use Rattle.bl_x64.specs.declared.instruction.Rotation.TheVariants.{Rol, Ror, Shl, Shr, Sar}
use Rattle.bl_x64.specs.declared.instruction.Count.{Count}
use Rattle.bl_x64.specs.declared.instruction.Count.TheVariants.{Lzcnt, Tzcnt, Popcnt}
use Rattle.bl_x64.specs.declared.instruction.Extension.{Extension}
use Rattle.bl_x64.specs.declared.instruction.Extension.TheVariants.{Zero8, Zero16, Sign8, Sign16, Sign32}
use Rattle.bl_x64.specs.declared.instruction.Condition.{Condition}
use Rattle.bl_x64.specs.declared.instruction.Condition.TheVariants.{Below, AboveOrEqual, Equal, NotEqual, BelowOrEqual, Above, Less, GreaterOrEqual, LessOrEqual, Greater}

-- ---- flags (volume 1, section 3.4.3.1)

-- CF, ZF, SF and OF
pub record Flags : Type 0 where
  pub carry : Option Bool
  pub zero : Option Bool
  pub sign : Option Bool
  pub overflow : Option Bool

-- no flag is defined
abbrev pub unknown : Flags
unknown = record { carry = None; zero = None; sign = None; overflow = None }

-- the most significant bit of a number
abbrev pub is_negative : ℕ → ℕ → Bool
is_negative n x = not (nat_lt x (2 ^ (n - 1)))

-- whether a whole number is outside the range of signed numbers of n bits
abbrev pub overflows : ℕ → ℤ → Bool
overflows n z = not (int_le (pos 0 -ℤ pos (2 ^ (n - 1))) z && int_lt z (pos (2 ^ (n - 1))))

-- the flags after an operation that sets ZF and SF by its result, with the CF and the OF that are given
abbrev pub flags_of : ℕ → ℕ → Option Bool → Option Bool → Flags
flags_of n result carry overflow = record { carry = carry; zero = Some (result == 0); sign = Some (is_negative n result); overflow = overflow }

-- ---- "ADD", "OR", "AND", "SUB", "XOR", "CMP", and "TEST", whose flags are those of AND

-- the result on operands of n bits
abbrev pub alu_result : Alu → ℕ → ℕ → ℕ → ℕ
alu_result Add n a b = (a + b) % 2 ^ n
alu_result Or n a b = ior n a b
alu_result And n a b = iand n a b
alu_result Sub n a b = (a + 2 ^ n - b) % 2 ^ n
alu_result Xor n a b = ixor n a b
alu_result Cmp n a b = (a + 2 ^ n - b) % 2 ^ n

-- CF: a carry out of the most significant bit, or a borrow; OR, AND and XOR clear it
abbrev pub alu_carry : Alu → ℕ → ℕ → ℕ → Bool
alu_carry Add n a b = not (nat_lt (a + b) (2 ^ n))
alu_carry Sub n a b = nat_lt a b
alu_carry Cmp n a b = nat_lt a b
alu_carry op n a b = false

-- OF: the signed sum or difference does not fit n bits; OR, AND and XOR clear it
abbrev pub alu_overflow : Alu → ℕ → ℕ → ℕ → Bool
alu_overflow Add n a b = overflows n (signed n a +ℤ signed n b)
alu_overflow Sub n a b = overflows n (signed n a -ℤ signed n b)
alu_overflow Cmp n a b = overflows n (signed n a -ℤ signed n b)
alu_overflow op n a b = false

-- the flags that the operation sets
abbrev pub alu_flags : Alu → ℕ → ℕ → ℕ → Flags
alu_flags op n a b = flags_of n (alu_result op n a b) (Some (alu_carry op n a b)) (Some (alu_overflow op n a b))

-- whether the result is written: CMP keeps only its flags
abbrev pub alu_writes : Alu → Bool
alu_writes Cmp = false
alu_writes op = true

-- ---- "IMUL", in the form with two operands: CF and OF are set if the signed product does not fit n bits; ZF and SF are undefined

-- the lower half of the product
abbrev pub imul_result : ℕ → ℕ → ℕ → ℕ
imul_result n a b = (a * b) % 2 ^ n

-- the flags after it
abbrev pub imul_flags : ℕ → ℕ → ℕ → Flags
imul_flags n a b =
    let over = Some (overflows n (signed n a *ℤ signed n b)) in
    record { carry = over; zero = None; sign = None; overflow = over }

-- ---- "RCL/RCR/ROL/ROR" and "SAL/SAR/SHL/SHR", by the count in CL. Only the lowest 5 bits of the count are used at 32 bits, and the lowest 6
-- at 64: this is the count modulo n

-- the result; WebAssembly's shifts and rotations take the count modulo n too
abbrev pub rotation_result : Rotation → ℕ → ℕ → ℕ → ℕ
rotation_result Rol n a count = irotl n a count
rotation_result Ror n a count = irotr n a count
rotation_result Shl n a count = ishl n a count
rotation_result Shr n a count = ishr_u n a count
rotation_result Sar n a count = ishr_s n a count

-- the flags after a count that is not 0 modulo n: a shift sets ZF and SF by its result, and a rotation leaves them
abbrev pub rotation_flags_by : Rotation → ℕ → ℕ → Flags → Flags
rotation_flags_by Rol n result old = record old { carry = None; overflow = None }
rotation_flags_by Ror n result old = record old { carry = None; overflow = None }
rotation_flags_by op n result old = flags_of n result None None

-- the flags after any count: a count of 0 modulo n changes none
abbrev pub rotation_flags : Rotation → ℕ → ℕ → ℕ → Flags → Flags
rotation_flags op n a count old = if count % n == 0 then old else rotation_flags_by op n (rotation_result op n a count) old

-- ---- "LZCNT", "TZCNT", "POPCNT". A processor without LZCNT runs it as BSR, and one without TZCNT runs it as BSF: the host must test for
-- LZCNT, BMI1 and POPCNT before it runs code of this crate

-- the number of leading zeros, of trailing zeros (both n for 0), or of ones
abbrev pub count_result : Count → ℕ → ℕ → ℕ
count_result Lzcnt n a = iclz n a
count_result Tzcnt n a = ictz n a
count_result Popcnt n a = ipopcnt n a

-- LZCNT and TZCNT set CF if the operand is 0, and ZF if the result is 0. POPCNT sets ZF if the operand is 0, and clears the other flags
abbrev pub count_flags : Count → ℕ → ℕ → Flags
count_flags Popcnt n a = record { carry = Some false; zero = Some (a == 0); sign = Some false; overflow = Some false }
count_flags op n a = record { carry = Some (a == 0); zero = Some (count_result op n a == 0); sign = None; overflow = None }

-- ---- "MOVZX", "MOVSX/MOVSXD": no flag changes

-- the number of bytes that an extension reads
abbrev pub extended_bytes : Extension → ℕ
extended_bytes Zero8 = 1
extended_bytes Zero16 = 2
extended_bytes Sign8 = 1
extended_bytes Sign16 = 2
extended_bytes Sign32 = 4

-- the number of n bits that it writes
abbrev pub extension_result : Extension → ℕ → ℕ → ℕ
extension_result Zero8 n a = a
extension_result Zero16 n a = a
extension_result Sign8 n a = iextend_s 8 n a
extension_result Sign16 n a = iextend_s 16 n a
extension_result Sign32 n a = iextend_s 32 n a

-- ---- conditions (volume 1, appendix B)

-- a test of two flags; None if either is undefined
abbrev pub of_two : (Bool → Bool → Bool) → Option Bool → Option Bool → Option Bool
of_two f None b = None
of_two f (Some x) b = option_map (λ y. f x y) b

-- whether two flags differ
abbrev pub differ : Bool → Bool → Bool
differ true b = not b
differ false b = b

-- whether a condition holds; None if a flag that it reads is undefined
abbrev pub holds : Condition → Flags → Option Bool
holds Below f = f.carry
holds AboveOrEqual f = option_map not f.carry
holds Equal f = f.zero
holds NotEqual f = option_map not f.zero
holds BelowOrEqual f = of_two (λ c z. c || z) f.carry f.zero
holds Above f = option_map not (of_two (λ c z. c || z) f.carry f.zero)
holds Less f = of_two differ f.sign f.overflow
holds GreaterOrEqual f = option_map not (of_two differ f.sign f.overflow)
holds LessOrEqual f = of_two (λ z l. z || l) f.zero (of_two differ f.sign f.overflow)
holds Greater f = option_map not (of_two (λ z l. z || l) f.zero (of_two differ f.sign f.overflow))
