use Rattle.bl_graph.proofs.RangeLemmas.{in_range}
use Rattle.bl_build.proofs.VerdictsTotal.{some_check, some_flow_verdict, some_label_verdict}
use Rattle.bl_build.proofs.laws.programs_have_verdicts.Goals as goal

pub returns-clause-certificates : goal.returns-clause-certificates
returns-clause-certificates c = λ program certificate facts rules. some_check program certificate (in_range program facts rules)

pub returns-clause-flows : goal.returns-clause-flows
returns-clause-flows c = λ program set facts rules. some_flow_verdict program set (in_range program facts rules)

pub returns-clause-labels : goal.returns-clause-labels
returns-clause-labels c = some_label_verdict
