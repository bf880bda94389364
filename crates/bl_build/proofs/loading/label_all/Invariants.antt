use Rattle.std.proofs.Common.{length, map}
use Rattle.std.specs.List.{All}
use Rattle.std.specs.Vec.Iter.{into_iter_items}
use Rattle.bl_labels.specs.Faults.{IsConsistent}
use Rattle.bl_build.specs.LoadStages.{labelling}
use Rattle.bl_build.specs.StageAnswers.{checked_in, ready_in}
use Rattle.bl_job.proofs.StageLemmas.{Goes}
use Rattle.bl_build.proofs.loading.label_all.Given as goal

abbrev pub invariant-loop-one : goal.invariant-loop-one
invariant-loop-one l = record {
  goes : Goes labelling (map checked_in l.fn.checked.items) (map ready_in l.all.items) (map checked_in (into_iter_items l.rest));
  sane : All (λ one. IsConsistent one.labels) l.all.items;
}

abbrev pub decreases-loop-one : goal.decreases-loop-one
decreases-loop-one l = length (into_iter_items l.rest)
