use Rattle.std.proofs.Common.{None, arith, rules}
use Rattle.bl_build.specs.InvocationStages.{invoking}
use Rattle.bl_build.specs.LoadStages.{loading, parts_of}
use Rattle.bl_build.specs.StageAnswers.{invoked_in}
use Rattle.bl_job.specs.Stages.{ThenRefuses, at_first, at_second}
use Rattle.bl_job.specs.WorkAnswers.{content_in, contents_in}
use Rattle.bl_words.specs.Words.{interp_in}
use Rattle.bl_app.specs.InterpJob.{interp_staged}
use Rattle.bl_job.proofs.StageLemmas.{tells_on}
use Rattle.bl_job.proofs.WorkLemmas.{as_many}
use Rattle.bl_app.proofs.HardenLemmas.{short_modules}
use Rattle.bl_app.proofs.interp.InterpWordsCommand.work.Goals as goal

pub first_file-start-requires : goal.first_file-start-requires
first_file-start-requires c = let many = as_many None (interp_staged (interp_in c.args.self.now)).reads c.args.contents.items c.requires.read in omega (arith, many)

pub load-requires-clause-short : goal.load-requires-clause-short
load-requires-clause-short c =
    let read = rw c.first_file-start.ensures at c.requires.read in
    rw c.as_slice.ensures (short_modules (interp_in c.args.self.now).modules (contents_in c.first_file-start.result.1.items) read.1)

pub returns-in_err-linked : goal.returns-in_err-linked
returns-in_err-linked c =
    let request = interp_in c.args.self.now in
    let contents = c.first_file-start.result in
    let parts = parts_of request.modules (contents_in contents.1.items) in
    let refused = tells_on (loading.Refuses parts) (ThenRefuses loading (invoking request.export (content_in contents.0)) parts) (λ refusal. at_first) c.in_err-linked.field-0.0 (search rules) in
    search rules

pub returns-in_err-invocation : goal.returns-in_err-invocation
returns-in_err-invocation c =
    let request = interp_in c.args.self.now in
    let contents = c.first_file-start.result in
    let second = invoking request.export (content_in contents.0) in
    let parts = parts_of request.modules (contents_in contents.1.items) in
    let refused = tells_on (second.Refuses c.in_ok-linked.linked) (ThenRefuses loading second parts) (λ refusal. at_second c.in_ok-linked.linked (search rules)) c.in_err-invocation.field-0.0 (search rules) in
    search rules

pub returns : goal.returns
returns c = record { made = invoked_in c.in_ok-linked.linked c.in_ok-invocation.invocation; passes = search rules; plans = c.in_ok-tell.ensures }
