use Rattle.bl_app.specs.Commands.{job_of}
use Rattle.bl_job.proofs.CausesLemmas.{without_request}
use Rattle.bl_app.proofs.CommandLemmas.{with_request}
use Rattle.bl_app.proofs.laws.no_status_answers_all.Goals as goal

pub returns-clause-without_request : goal.returns-clause-without_request
returns-clause-without_request c = without_request job_of

pub returns-clause-with_request : goal.returns-clause-with_request
returns-clause-with_request c = with_request
