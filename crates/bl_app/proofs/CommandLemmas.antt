-- All commands keep the laws, and say what they say where they are done; no status answers all calls.
use Rattle.std.proofs.Common.{◌≡◌, ℕ, List, Option, Some, refl, arith, subst, sym, ◌∙◌, ◌≤◌, length}
use Rattle.std.specs.List.{AllByRecursion}
use Rattle.bl_base.specs.Quantity.{limit_of}
use Rattle.bl_base.specs.declared.quantity.Quantity.TheVariants as quantity
use Rattle.bl_outside.specs.Shelf.{Files}
use Rattle.bl_job.specs.Causes.{Causes, IsDone}
use Rattle.bl_words.proofs.WordsLemmas.{gen_in_range, run_in_range}
use Rattle.bl_app.specs.Commands.{HasOnePlan, IsSized, Row, command, job_of, row_of, work_of}
use Rattle.bl_job.specs.Jobs.{AreRead, FirstRefusal, IsLawful, IsSmall, IsTotal, Plan}
use Rattle.bl_job.specs.Refusals.{Refusal}
use Rattle.bl_words.specs.Requests.{Request, forward, gen, harden, interp, join, lower, modules_in, part, predict, request_of, run, spec, twin, verify}
use Rattle.bl_job.specs.Worlds.{World}
use Rattle.bl_job.specs.Status.{reason_number, status_number, kind_of, of_deed}
use Rattle.bl_job.specs.declared.status.Reason.{Reason}
use Rattle.bl_job.specs.declared.status.Reason.TheVariants as reason
use Rattle.bl_job.specs.declared.status.Status.{Status}
use Rattle.bl_job.specs.declared.status.Status.TheVariants as status
use Rattle.bl_job.proofs.ModuleCountLemmas.{with_modules_lawful, with_modules_total, work_done}
use Rattle.bl_app.proofs.ForwardLemmas.{forward_staged_is, one_forward_plan}
use Rattle.bl_app.proofs.GenLemmas.{gen_staged_is}
use Rattle.bl_app.proofs.HardenLemmas.{harden_staged_is, lower_staged_is}
use Rattle.bl_app.proofs.InterpLemmas.{interp_staged_is, one_interp_plan}
use Rattle.bl_app.proofs.JoinLemmas.{join_staged_is}
use Rattle.bl_job.proofs.JobLemmas.{done_not_refused, one_first}
use Rattle.bl_app.proofs.PartLemmas.{part_staged_is}
use Rattle.bl_app.proofs.PredictLemmas.{one_predict_plan, predict_staged_is}
use Rattle.bl_app.proofs.RunLemmas.{one_run_plan, run_staged_is}
use Rattle.bl_app.proofs.SpecLemmas.{spec_staged_is}
use Rattle.bl_job.proofs.StagedJobLemmas.{IsStagedCommand, deed_means, one_done, staged_lawful, staged_total}
use Rattle.bl_app.specs.RunJob.{run_staged}
use Rattle.bl_app.specs.ForwardJob.{forward_staged}
use Rattle.bl_app.specs.GenJob.{gen_staged}
use Rattle.bl_app.specs.HardenJob.{harden_staged}
use Rattle.bl_app.specs.InterpJob.{interp_staged}
use Rattle.bl_app.specs.JoinJob.{join_staged}
use Rattle.bl_app.specs.LowerJob.{lower_staged}
use Rattle.bl_app.specs.PartJob.{part_staged}
use Rattle.bl_app.specs.PredictJob.{predict_staged}
use Rattle.bl_app.specs.SpecJob.{spec_staged}
use Rattle.bl_job.specs.StagedJobs.{DeedMeans, Staged, WasDone}
use Rattle.bl_app.specs.TwinJob.{twin_staged}
use Rattle.bl_app.specs.VerifyJob.{verify_staged}
use Rattle.bl_app.proofs.TwinLemmas.{one_twin_plan, twin_staged_is}
use Rattle.bl_app.proofs.VerifyLemmas.{verify_staged_is}

-- a shelf may be asked for the files of a command; it keeps the laws, answers all contents that are there, says what it says where its job was done,
-- and does one thing alone where that is said, for a request that words ask for
record IsCommand (request : Request) (row : Row) : Type 0 where
  small : AllByRecursion IsSmall row.job.reads
  lawful : IsLawful row.job
  total : length (modules_in request) ≤ limit_of quantity.Modules → row.Given → IsTotal row.job
  says : (old new : World) (status : Status) → WasDone row.job old new status → DeedMeans row.staged old new status
  one : HasOnePlan request → (contents : List (List ℕ)) (p q : Plan) → row.job.Does contents p → row.job.Does contents q → p ≡ q

staged : {request : Request} {B Given These : Type 0} (staged : Staged B) → IsStagedCommand These staged → (length (modules_in request) ≤ limit_of quantity.Modules → Given → These)
    → (HasOnePlan request → (made : B) (p q : Plan) → staged.Plans made p → staged.Plans made q → p ≡ q) → IsCommand request (command Given staged)
staged row laws these one = record {
  small = laws.small;
  lawful = staged_lawful row laws;
  total = λ few given. staged_total row laws (these few given);
  says = deed_means row laws;
  one = λ has. one_done row laws (one has);
}

commands : (request : Request) → IsCommand request (row_of request)
commands (harden request) = staged (harden_staged request) (harden_staged_is request) (λ few given. record { few = few; apart = given.0; texts = given.1 }) (λ has. absurd has)
commands (lower request) =
    staged (lower_staged request) (lower_staged_is request) (λ few given. record { few = few; apart = given.0; texts = given.1 }) (λ has made p q h k. h ∙ sym k)
commands (interp request) = staged (interp_staged request) (interp_staged_is request) (λ few given. record { few = few; apart = given }) (λ has. one_interp_plan request.steps)
commands (run request) = staged (run_staged request) (run_staged_is request) (λ few given. tt) (λ has. one_run_plan request.steps request.counts)
commands (spec request) = staged (spec_staged request) (spec_staged_is request) (λ few given. tt) (λ has made p q h k. h ∙ sym k)
commands (twin request) = staged (twin_staged request) (twin_staged_is request) (λ few given. tt) (λ has. one_twin_plan)
commands (forward request) = staged (forward_staged request) (forward_staged_is request) (λ few given. tt) (λ has. one_forward_plan)
commands (predict request) = staged (predict_staged request) (predict_staged_is request) (λ few given. tt) (λ has. one_predict_plan request.steps request.trace)
commands (part request) =
    staged (part_staged request) (part_staged_is request) (λ few given. record { few = few; apart = given.0; texts = given.1 }) (λ has made p q h k. h ∙ sym k)
commands (join request) = staged (join_staged request) (join_staged_is request) (λ few given. tt) (λ has made p q h k. h ∙ sym k)
commands (verify request) = staged (verify_staged request) (verify_staged_is request) (λ few given. tt) (λ has. absurd has)
commands (gen request) = staged (gen_staged request) (gen_staged_is request) (λ few given. given) (λ has. absurd has)

pub small_of : (request : Request) → AllByRecursion IsSmall (work_of request).reads
small_of request = (commands request).small

pub laws_of : (request : Request) → IsLawful (job_of request)
laws_of request = with_modules_lawful (modules_in request) (work_of request) (commands request).lawful

pub total_of : (request : Request) → (row_of request).Given → IsTotal (job_of request)
total_of request given = with_modules_total (modules_in request) (work_of request) (λ few. (commands request).total few given)

-- what is said where a job was done
pub said_of : (asked : Option Request) (request : Request) (old new : World) (status : Status) → asked ≡ Some request → IsDone job_of asked old new status
    → DeedMeans (row_of request).staged old new status
said_of asked request old new status is d =
    let same : d.request ≡ request = let theirs = d.is_request in cc in
    let work = work_done (modules_in request) (work_of request) old.files d.contents d.plan
    (subst (λ r. AreRead old.files (job_of r).reads d.contents) same d.read) (subst (λ r. (job_of r).Does d.contents d.plan) same d.does) in
    (commands request).says old new status
    (record { contents = d.contents; plan = d.plan; read = work.0; does = work.1; meant = d.meant; kept = d.kept; printed = d.printed })

pub one_plan : (request : Request) → HasOnePlan request → (contents : List (List ℕ)) (p q : Plan) → (work_of request).Does contents p → (work_of request).Does contents q → p ≡ q
one_plan request = (commands request).one

pub one_refusal : (files : Files) (request : Request) (a b : Refusal) → FirstRefusal (job_of request) (Some files) a → FirstRefusal (job_of request) (Some files) b → a ≡ b
one_refusal files request = one_first files (job_of request) (laws_of request)

pub not_refused : (files : Files) (request : Request) (refusal : Refusal) (contents : List (List ℕ)) (plan : Plan) → AreRead (Some files) (job_of request).reads contents → (job_of request).Does contents plan
    → FirstRefusal (job_of request) (Some files) refusal → ⊥
not_refused files request = done_not_refused files (job_of request) (laws_of request)

-- ---- what is known of a request

-- the number and the size of a module that is made are in range, and the steps of a run
pub sized_by : (words : List (List ℕ)) (request : Request) → request_of words ≡ Some request → IsSized request
sized_by words request = elim request as (λ r. request_of words ≡ Some r → IsSized r) [ gen request ↦ gen_in_range words request | run request ↦ run_in_range words request | _ ↦ λ e. tt ]

-- ---- statuses

pub with_request : (request : Request) (old new : World) → Causes job_of (Some request) old new status.Usage → ⊥
with_request request old new c = let none = c.usage_only refl in cc

never_zero : (why : Reason) → reason_number why ≡ 0 → ⊥
never_zero why = elim why as (λ r. reason_number r ≡ 0 → ⊥) [ reason.Malformed ↦ λ e. omega (arith, e) | _ ↦ λ e. omega (arith, e) ]

-- the number 0 says that the work was done
pub done_by_zero : (s : Status) → status_number s ≡ 0 → kind_of s ≡ of_deed
done_by_zero s =
    elim s as (λ t. status_number t ≡ 0 → kind_of t ≡ of_deed) [ status.Done ↦ λ e. refl | status.Refused why ↦ λ e. absurd (never_zero why e) | _ ↦ λ e. absurd (omega (arith, e)) ]
