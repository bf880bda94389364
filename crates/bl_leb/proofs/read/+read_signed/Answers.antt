use Rattle.std.proofs.Common.{◌-◌, arith}
use Rattle.std.proofs.lemmas.Int.{ints}
use Rattle.bl_leb.proofs.Bits.{power_grows}
use Rattle.bl_leb.proofs.Signed.{half_split, bounded, byte_small}
use Rattle.bl_leb.proofs.SignedPlaces.{signed_more, signed_never, signed_none}
use Rattle.bl_leb.proofs.read.+read_signed.Goals as goal

pub returns-in_err-value-clause-none : goal.returns-in_err-value-clause-none
returns-in_err-value-clause-none t c =
    rw c.from_residual-in_err-value.ensures (signed_never c.args.width c.args.bytes.now c.args.at c.in_ok-byte.field-0.now (grind arith) (grind arith) c.in_err-value.ensures.none (λ high _. omega arith))

pub returns-then-width-le7-clause-none : goal.returns-then-width-le7-clause-none
returns-then-width-le7-clause-none t c =
    signed_never c.args.width c.args.bytes.now c.args.at c.in_ok-byte.field-0.now (grind arith) (grind arith) (λ v h. let small = byte_small c.args.width c.in_ok-byte.field-0.now v h in omega (arith, small.0)) (λ _ wide. omega arith)

pub returns-in_err-high-clause-none : goal.returns-in_err-high-clause-none
returns-in_err-high-clause-none t c =
    rw c.from_residual-in_err-high.ensures (signed_none c.args.width c.args.bytes.now c.args.at c.in_ok-byte.field-0.now (grind arith) (grind arith) c.if-byte-lt128.false c.in_err-high.ensures.none)

pub overflow_mul-result : goal.overflow_mul-result
overflow_mul-result t c =
    let split = half_split c.args.width c.if-width-le7.false in
    let most = power_grows (c.args.width - 1) 63 (omega arith) in
    omega (arith, ints, c.in_ok-high.ensures.bounded)

pub returns-clause-found : goal.returns-clause-found
returns-clause-found t c =
    let split = half_split c.args.width c.if-width-le7.false in
    let most = power_grows (c.args.width - 1) 63 (omega arith) in
    signed_more c.args.width c.args.bytes.now c.args.at c.in_ok-high.place c.in_ok-byte.field-0.now c.in_ok-high.high _ (grind arith) (grind arith) c.if-byte-lt128.false (omega arith) c.if-width-le7.false c.in_ok-high.ensures.found
    (omega (arith, ints, c.in_ok-high.ensures.bounded))

pub returns-clause-bounded : goal.returns-clause-bounded
returns-clause-bounded t c = bounded _ _ _ (returns-clause-found t c).spelled
