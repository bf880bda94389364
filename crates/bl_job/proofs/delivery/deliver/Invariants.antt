use Rattle.std.proofs.Common.{map}
use Rattle.bl_job.specs.WorkAnswers.{keep_in}
use Rattle.bl_job.specs.Worlds.{world}
use Rattle.bl_job.proofs.FetchLemmas.{KeptSo}
use Rattle.bl_job.proofs.delivery.deliver.Given as goal

-- so many of the files were kept
abbrev pub invariant-loop-keep : goal.invariant-loop-keep
invariant-loop-keep g l =
    KeptSo (map keep_in l.keep-items) l.keep-index
    (world g.F.Shelf.files g.F.Shelf.faults g.O.Sink.taken g.O.Sink.faults l.fn.files l.fn.out)
    (world g.F.Shelf.files g.F.Shelf.faults g.O.Sink.taken g.O.Sink.faults l.files l.out)
