use Rattle.std.proofs.Common.{map, subst}
use Rattle.std.proofs.lemmas.List.{take_all}
use Rattle.bl_job.specs.Jobs.{AreRead}
use Rattle.bl_job.specs.WorkAnswers.{contents_in, read_in}
use Rattle.bl_job.proofs.FetchLemmas.{next_fetched, next_not_fetched, pushed}
use Rattle.bl_job.proofs.fetch.fetch_all.Goals as goal

pub loop-read-preserved : goal.loop-read-preserved
loop-read-preserved g c =
    next_fetched c.args.reads.now c.loop-read.read-index _ c.loop-read-test.true _ _ _ _ c.loop-read.invariant c.in-Ok.content c.push.new.self.items c.in-Ok.ensures.0 c.in-Ok.ensures.1
    (pushed c.push.result _ _ _ c.push.ensures.items c.if-is_err.ensures.value)

pub returns-in-Err : goal.returns-in-Err
returns-in-Err g c = next_not_fetched c.args.reads.now c.loop-read.read-index _ c.loop-read-test.true _ _ _ _ c.loop-read.invariant c.in-Err.status c.in-Err.ensures

pub returns : goal.returns
returns g c = (
  c.loop-read.invariant.unchanged,
  subst (λ reads. AreRead (g.F.Shelf.files c.args.files.now) (map read_in reads) (contents_in c.loop-read.contents.items))
      (take_all c.loop-read.read-index c.args.reads.now c.loop-read-test.false) c.loop-read.invariant.read,
)
