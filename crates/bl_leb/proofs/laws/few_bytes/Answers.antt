use Rattle.std.proofs.Common.{arith}
use Rattle.bl_leb.proofs.Signed as signed
use Rattle.bl_leb.proofs.Unsigned as unsigned
use Rattle.bl_leb.proofs.laws.few_bytes.Goals as goal

pub returns-clause-unsigned : goal.returns-clause-unsigned
returns-clause-unsigned c = λ width bytes v some h.
    (unsigned.not_empty width bytes v h, omega (arith, unsigned.length_bounded width bytes v some h))

pub returns-clause-signed : goal.returns-clause-signed
returns-clause-signed c = λ width bytes v some h.
    (signed.not_empty width bytes v h, omega (arith, signed.length_bounded width bytes v some h))
