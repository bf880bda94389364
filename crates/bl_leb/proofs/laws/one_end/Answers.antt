use Rattle.bl_leb.proofs.Signed as signed
use Rattle.bl_leb.proofs.Unsigned as unsigned
use Rattle.bl_leb.proofs.laws.one_end.Goals as goal

pub returns-clause-unsigned : goal.returns-clause-unsigned
returns-clause-unsigned c = unsigned.one_end

pub returns-clause-signed : goal.returns-clause-signed
returns-clause-signed c = signed.one_end
