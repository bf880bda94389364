use Rattle.std.proofs.Common.{arith, inl, inr}
use Rattle.std.proofs.lemmas.Int.{ints}
use Rattle.bl_leb.proofs.Bits.{half_is}
use Rattle.bl_leb.proofs.read.last_signed.Goals as goal

pub returns-then-byte-half-clause-found : goal.returns-then-byte-half-clause-found
returns-then-byte-half-clause-found c =
    let is = half_is c.args.width c.min.result c.requires.signed c.min.ensures in
    inl (omega arith, omega arith, omega (arith, ints))

pub returns-clause-found : goal.returns-clause-found
returns-clause-found c =
    let is = half_is c.args.width c.min.result c.requires.signed c.min.ensures in
    inr (omega arith, omega arith, omega arith, omega (arith, ints))
