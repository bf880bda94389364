use Rattle.std.proofs.Common.{◌≡◌, ◌<◌, length, get_or, arith, inl, inr}
use Rattle.bl_leb.proofs.Bits.{power_grows, limit_fits, limit_past}
use Rattle.bl_leb.proofs.Unsigned.{power_split}
use Rattle.bl_leb.proofs.UnsignedPlaces.{unsigned_one, unsigned_more, unsigned_never, unsigned_none}
use Rattle.bl_leb.proofs.read.+read_unsigned.Goals as goal
use Rattle.bl_leb.proofs.read.+read_unsigned.Goals.{then-byte-lt128-via-then-byte-lt128, then-byte-lt128-via-else-byte-lt128+then-width-le7}

pub returns-then-byte-min-clause-bounded : goal.returns-then-byte-min-clause-bounded
returns-then-byte-min-clause-bounded t c =
    let fits = limit_fits c.args.width c.min.result c.in_ok-byte.field-0.now c.min.ensures c.if-byte-min.true in
    omega arith

pub returns-then-byte-min-clause-found : goal.returns-then-byte-min-clause-found
returns-then-byte-min-clause-found t c =
    let fits = limit_fits c.args.width c.min.result c.in_ok-byte.field-0.now c.min.ensures c.if-byte-min.true in
    rw c.from.ensures (unsigned_one c.args.width c.args.bytes.now c.args.at c.in_ok-byte.field-0.now (grind arith) (grind arith) fits.0 fits.1)

pub returns-then-byte-lt128-clause-none : goal.returns-then-byte-lt128-clause-none
returns-then-byte-lt128-clause-none t c =
    let past = limit_past c.args.width c.min.result c.in_ok-byte.field-0.now c.min.ensures c.if-byte-min.false in
    let inside : c.args.at < length c.args.bytes.now = grind arith in
    let is : c.in_ok-byte.field-0.now ≡ get_or c.args.bytes.now c.args.at c.in_ok-byte.field-0.now = grind arith in
    elim c.then-byte-lt128.branch [
      | then-byte-lt128-via-then-byte-lt128 w ↦ unsigned_never c.args.width c.args.bytes.now c.args.at c.in_ok-byte.field-0.now inside is (inl (w.if-byte-lt128.true, past w.if-byte-lt128.true))
      | then-byte-lt128-via-else-byte-lt128+then-width-le7 w ↦ unsigned_never c.args.width c.args.bytes.now c.args.at c.in_ok-byte.field-0.now inside is (inr (w.if-byte-lt128.false, w.if-width-le7.true))
    ]

pub returns-in_err-high-clause-none : goal.returns-in_err-high-clause-none
returns-in_err-high-clause-none t c =
    rw c.from_residual-in_err-high.ensures (unsigned_none c.args.width c.args.bytes.now c.args.at c.in_ok-byte.field-0.now (grind arith) (grind arith) c.if-byte-lt128.false c.in_err-high.ensures.none)

pub overflow_mul-result : goal.overflow_mul-result
overflow_mul-result t c =
    let split = power_split c.args.width c.if-width-le7.false in
    let most = power_grows c.args.width 64 c.requires.fits in
    omega (arith, c.in_ok-high.ensures.bounded)

pub overflow_add-result-2 : goal.overflow_add-result-2
overflow_add-result-2 t c =
    let split = power_split c.args.width c.if-width-le7.false in
    let most = power_grows c.args.width 64 c.requires.fits in
    omega (arith, c.in_ok-high.ensures.bounded)

pub returns-clause-bounded : goal.returns-clause-bounded
returns-clause-bounded t c =
    let split = power_split c.args.width c.if-width-le7.false in
    omega (arith, c.in_ok-high.ensures.bounded)

pub returns-clause-found : goal.returns-clause-found
returns-clause-found t c =
    rw c.from-2.ensures (unsigned_more c.args.width c.args.bytes.now c.args.at c.in_ok-high.place c.in_ok-byte.field-0.now c.in_ok-high.high (grind arith) (grind arith) c.if-byte-lt128.false (omega arith) c.if-width-le7.false c.in_ok-high.ensures.found)
