use Rattle.std.proofs.Common.{map, take}
use Rattle.bl_job.specs.WorkAnswers.{contents_in, read_in}
use Rattle.bl_job.specs.Worlds.{world}
use Rattle.bl_job.proofs.FetchLemmas.{FetchedSo}
use Rattle.bl_job.proofs.fetch.fetch_all.Given as goal

-- so many of the files were fetched
abbrev pub invariant-loop-read : goal.invariant-loop-read
invariant-loop-read g l =
    FetchedSo (map read_in (take l.read-index l.reads))
    (world g.F.Shelf.files g.F.Shelf.faults g.O.Sink.taken g.O.Sink.faults l.fn.files l.fn.out)
    (world g.F.Shelf.files g.F.Shelf.faults g.O.Sink.taken g.O.Sink.faults l.files l.out)
    (contents_in l.contents.items)
