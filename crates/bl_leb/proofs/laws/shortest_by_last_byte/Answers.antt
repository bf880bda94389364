use Rattle.bl_leb.proofs.Unsigned.{large_last, zero_never, not_empty}
use Rattle.bl_leb.proofs.laws.shortest_by_last_byte.Goals as goal

pub returns-clause-one : goal.returns-clause-one
returns-clause-one c = λ width n v h. record { spelled = h; least = λ other q. not_empty width other v q }

pub returns-clause-last : goal.returns-clause-last
returns-clause-last c = λ width last v bytes h some. (large_last width bytes last v h some).1

pub returns-clause-longer : goal.returns-clause-longer
returns-clause-longer c = λ width first v bytes h. zero_never width first bytes v h
