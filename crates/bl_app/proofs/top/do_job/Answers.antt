use Rattle.std.proofs.Common.{◌∙◌, ap, map, refl}
use Rattle.bl_app.specs.Commands.{job_of, work_of}
use Rattle.bl_words.specs.Requests.{modules_in}
use Rattle.bl_words.specs.Words.{request_in}
use Rattle.bl_job.specs.WorkAnswers.{Tells, plan_in, read_in, contents_in}
use Rattle.bl_job.proofs.CarryLemmas.{contents_fit, done_ends, error_ends, unfetched_ends}
use Rattle.bl_app.proofs.CommandLemmas.{small_of}
use Rattle.bl_job.proofs.ModuleCountLemmas.{against_with, does_with, reads_with}
use Rattle.bl_job.proofs.FetchLemmas.{small_reads}
use Rattle.bl_job.proofs.StageLemmas.{tells_on}
use Rattle.bl_app.proofs.top.do_job.Goals as goal

pub fetch_all-requires : goal.fetch_all-requires
fetch_all-requires g c = small_reads c.as_slice.result.now _ (ap (map read_in) c.as_slice.ensures.value ∙ c.in-Ok.ensures) (small_of (request_in c.args.request.now))

pub work-requires-clause-read : goal.work-requires-clause-read
work-requires-clause-read g c =
    let same = ap (map read_in) c.as_slice.ensures.value ∙ c.in-Ok.ensures in
    contents_fit (work_of (request_in c.args.request.now)) _ _ _ same c.in-Ok-fetch_all.ensures.1

pub returns-in-Err : goal.returns-in-Err
returns-in-Err g c =
    let same = ap (map read_in) c.as_slice.ensures.value ∙ c.in-Ok.ensures ∙ reads_with (modules_in (request_in c.args.request.now)) (work_of (request_in c.args.request.now)) c.requires.few in
    unfetched_ends job_of (request_in c.args.request.now) _ _ _ _ same c.in-Err.ensures

pub returns-in-Ok-work : goal.returns-in-Ok-work
returns-in-Ok-work g c =
    let request = request_in c.args.request.now in
    let same = ap (map read_in) c.as_slice.ensures.value ∙ c.in-Ok.ensures ∙ reads_with (modules_in (request_in c.args.request.now)) (work_of (request_in c.args.request.now)) c.requires.few in
    let does = does_with (modules_in request) (work_of request) c.requires.few _ (plan_in c.in-Ok-work.plan) c.in-Ok-work.ensures in
    let fetched = c.in-Ok-fetch_all.ensures in
    done_ends job_of request _ _ _ _ _ _ same fetched.0 fetched.1 (plan_in c.in-Ok-work.plan) does c.deliver.ensures

pub returns : goal.returns
returns g c =
    let request = request_in c.args.request.now in
    let same = ap (map read_in) c.as_slice.ensures.value ∙ c.in-Ok.ensures ∙ reads_with (modules_in (request_in c.args.request.now)) (work_of (request_in c.args.request.now)) c.requires.few in
    let against = tells_on ((work_of request).Against _) ((job_of request).Against _) (against_with (modules_in request) (work_of request) c.requires.few _) c.in-Err-work.error c.in-Err-work.ensures in
    let fetched = c.in-Ok-fetch_all.ensures in
    error_ends job_of request _ _ _ _ _ _ same fetched.0 fetched.1 c.in-Err-work.error against refl refl c.refuse.ensures
