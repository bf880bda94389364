-- What operators mean is what their shapes give, and that is a number of 64 bits.
use Rattle.std.proofs.Common.{◌≡◌, ℕ, ◌+◌, ◌-◌, ◌*◌, ◌/◌, ◌%◌, ◌^◌, ◌<◌, ◌≤◌, refl, ◌∙◌, arith, mod-lt, mod-eq_of_lt}
use Rattle.bl_ops.specs.Integer.{ishr_s, irotl, irotr}
use Rattle.bl_ops.specs.Numerics.{meaning}
use Rattle.bl_ops.specs.declared.op.Op.{Op}
use Rattle.bl_ops.specs.declared.op.Op.TheVariants as op
use Rattle.bl_ops.proofs.Fits.{truth-below, mod-below, iextend_s-below, iclz-below, ictz-below, ipopcnt-below, iand-below, ior-below, ixor-below}
use Rattle.bl_x64.specs.Registers.{bits_of}
use Rattle.bl_x64.specs.Operations.{rotation_result}
use Rattle.bl_x64.specs.declared.instruction.Size.{Size}
use Rattle.bl_x64.specs.declared.instruction.Size.TheVariants.{Long, Quad}
use Rattle.bl_x64.specs.declared.instruction.Rotation.{Rotation}
use Rattle.bl_x64.specs.declared.instruction.Rotation.TheVariants.{Rol, Ror, Shl, Shr, Sar}
use Rattle.bl_select.specs.Shapes.{shape_of, at_size, value_of}

pub meaning_is : (o : Op) (a b c : ℕ) → meaning o a b c ≡ value_of (shape_of o) a b c
unfolding meaning
meaning_is op.I32Eqz a b c = refl
meaning_is op.I32Ne a b c = refl
meaning_is o a b c = refl

pub size_below : (size : Size) (a : ℕ) → a < 2 ^ 64 → at_size size a < 2 ^ bits_of size
size_below Long a h = mod-lt a (omega arith)
size_below Quad a h = h

pub size_fits : (size : Size) (a : ℕ) → a < 2 ^ 64 → at_size size a < 2 ^ 64
size_fits Long a h = omega arith
size_fits Quad a h = h

low_long : (b : ℕ) → b % 2 ^ 8 % 32 ≡ b % 32
low_long b = omega arith

low_quad : (b : ℕ) → b % 2 ^ 8 % 64 ≡ b % 64
low_quad b = omega arith

-- the lowest 8 bits of a count do
pub count_low : (op : Rotation) (size : Size) (a b : ℕ) → rotation_result op (bits_of size) a (b % 2 ^ 8) ≡ rotation_result op (bits_of size) a b
unfolding ishr_s irotl irotr
count_low Rol Long a b = rw (low_long b) refl
count_low Rol Quad a b = rw (low_quad b) refl
count_low Ror Long a b = rw (low_long b) refl
count_low Ror Quad a b = rw (low_quad b) refl
count_low Shl Long a b = rw (low_long b) refl
count_low Shl Quad a b = rw (low_quad b) refl
count_low Shr Long a b = rw (low_long b) refl
count_low Shr Quad a b = rw (low_quad b) refl
count_low Sar Long a b = rw (low_long b) refl
count_low Sar Quad a b = rw (low_quad b) refl
