use Rattle.bl_leb.specs.Numbers.{IsSigned, IsUnsigned}
use Rattle.bl_leb.proofs.Places.{spelled_between}
use Rattle.bl_leb.proofs.laws.read_again.Goals as goal

pub returns-clause-unsigned : goal.returns-clause-unsigned
returns-clause-unsigned c = λ width. spelled_between (IsUnsigned width)

pub returns-clause-signed : goal.returns-clause-signed
returns-clause-signed c = λ width. spelled_between (IsSigned width)
