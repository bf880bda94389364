use Rattle.bl_leb.proofs.Signed as signed
use Rattle.bl_leb.proofs.Unsigned as unsigned
use Rattle.bl_leb.proofs.laws.in_range.Goals as goal

pub returns-clause-unsigned : goal.returns-clause-unsigned
returns-clause-unsigned c = unsigned.bounded

pub returns-clause-signed : goal.returns-clause-signed
returns-clause-signed c = signed.bounded
