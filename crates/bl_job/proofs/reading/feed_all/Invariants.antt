use Rattle.std.proofs.Common.{◌+◌, ◌-◌, [], length}
use Rattle.std.specs.Prelude.{unwrap_or}
use Rattle.bl_job.proofs.PiecewiseReads.{FedSo}
use Rattle.bl_job.proofs.reading.feed_all.Given as goal

-- the decoder was fed what the file begins with, and nothing else is changed
abbrev pub invariant-loop-alloc : goal.invariant-loop-alloc
invariant-loop-alloc g l = FedSo (g.F.Shelf.files l.fn.files) (g.F.Shelf.files l.files) (g.F.Shelf.faults l.fn.files) (g.F.Shelf.faults l.files) l.name l.decoder

-- how many bytes may still be fed
abbrev pub decreases-loop-alloc : goal.decreases-loop-alloc
decreases-loop-alloc g l = l.most + 1 - length (unwrap_or l.decoder [])
