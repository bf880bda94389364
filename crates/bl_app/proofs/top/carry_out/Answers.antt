use Rattle.std.proofs.Common.{◌≡◌, ◌<◌, Bor, List, ap, arith, length, refl, ℕ}
use Rattle.std.proofs.lemmas.List.{length-map}
use Rattle.bl_base.specs.Quantity.{limit_of}
use Rattle.bl_base.specs.declared.quantity.Quantity.TheVariants as quantity
use Rattle.bl_app.specs.Commands.{job_of, work_of}
use Rattle.bl_job.specs.Refusals.{limit}
use Rattle.bl_words.specs.Requests.{modules_in}
use Rattle.bl_words.specs.Words.{request_in}
use Rattle.bl_job.proofs.CarryLemmas.{refused_ends, told_said}
use Rattle.bl_job.proofs.ModuleCountLemmas.{too_many_first}
use Rattle.bl_app.proofs.top.carry_out.Goals as goal

pub returns-then-count-limit : goal.returns-then-count-limit
returns-then-count-limit g c =
    let request = request_in c.args.request.now in
    let count = length c.modules_in.result.now in
    let named = length-map c.modules_in.result.now (λ (word : Bor (List ℕ)). word.now) in
    let same : count ≡ length (modules_in request) = omega (arith, named, ap length c.modules_in.ensures) in
    let many : limit_of quantity.Modules < count = omega (arith, c.if-count-limit.true, c.limit.ensures) in
    refused_ends job_of request _ c.refuse.result _ (limit quantity.Modules count) (too_many_first (modules_in request) (work_of request) _ count same many) refl refl
    (told_said (limit quantity.Modules count) c.limit-then-count-limit.result _ _ c.refuse.result c.limit-then-count-limit.ensures c.refuse.ensures)

pub do_job-requires-clause-few : goal.do_job-requires-clause-few
do_job-requires-clause-few g c =
    let named = length-map c.modules_in.result.now (λ (word : Bor (List ℕ)). word.now) in
    omega (arith, named, ap length c.modules_in.ensures, c.if-count-limit.false, c.limit.ensures)
