use Rattle.bl_cut.proofs.MarkedPrograms.{protects, protects_none}
use Rattle.bl_cut.proofs.laws.marks_are_the_set.Goals as goal

pub returns-clause-sites : goal.returns-clause-sites
returns-clause-sites c = λ program set s site. protects set program s site

pub returns-clause-others : goal.returns-clause-others
returns-clause-others c = λ program set s none. protects_none set program s none
