use Rattle.bl_app.proofs.OneAnswer.{verify_flow, verify_labels, verify_rules, verify_safe, verify_whole}
use Rattle.bl_app.proofs.VerifyLemmas.{one_status}
use Rattle.bl_app.proofs.laws.one_verification.Goals as goal

pub returns-clause-status : goal.returns-clause-status
returns-clause-status c = one_status

pub returns-clause-rules : goal.returns-clause-rules
returns-clause-rules c = verify_rules

pub returns-clause-flow : goal.returns-clause-flow
returns-clause-flow c = verify_flow

pub returns-clause-labels : goal.returns-clause-labels
returns-clause-labels c = verify_labels

pub returns-clause-safe : goal.returns-clause-safe
returns-clause-safe c = verify_safe

pub returns-clause-whole : goal.returns-clause-whole
returns-clause-whole c = verify_whole
