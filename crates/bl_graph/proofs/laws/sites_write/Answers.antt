use Rattle.bl_graph.proofs.RangeLemmas.{site_writes, writes_one}
use Rattle.bl_graph.proofs.laws.sites_write.Goals as goal

pub returns-clause-some : goal.returns-clause-some
returns-clause-some c = λ program s some. site_writes program s some

pub returns-clause-one : goal.returns-clause-one
returns-clause-one c = λ program s x y one other. writes_one program s x y one other
