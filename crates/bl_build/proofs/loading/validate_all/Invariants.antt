use Rattle.std.proofs.Common.{◌<◌, ◌^◌, length, map}
use Rattle.std.specs.List.{All}
use Rattle.std.specs.Vec.Iter.{into_iter_items}
use Rattle.bl_wasm.specs.Validity.{functions_of}
use Rattle.bl_build.specs.LoadStages.{validation}
use Rattle.bl_build.specs.StageAnswers.{checked_in, spelled_in}
use Rattle.bl_job.proofs.StageLemmas.{Goes}
use Rattle.bl_build.proofs.loading.validate_all.Given as goal

abbrev pub invariant-loop-one : goal.invariant-loop-one
invariant-loop-one l = record {
  goes : Goes validation (map spelled_in l.fn.spelled.items) (map checked_in l.all.items) (map spelled_in (into_iter_items l.rest));
  few : All (λ one. length (functions_of one.tree) < 2 ^ 32) (into_iter_items l.rest);
}

abbrev pub decreases-loop-one : goal.decreases-loop-one
decreases-loop-one l = length (into_iter_items l.rest)
