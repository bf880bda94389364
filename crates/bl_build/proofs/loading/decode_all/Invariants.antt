use Rattle.std.proofs.Common.{◌<◌, ◌^◌, drop, length, map}
use Rattle.std.specs.List.{All}
use Rattle.std.specs.Vec.Iter.{into_iter_items}
use Rattle.bl_wasm.specs.Validity.{functions_of}
use Rattle.bl_build.specs.LoadStages.{decoding, parts_of}
use Rattle.bl_job.specs.WorkAnswers.{contents_in}
use Rattle.bl_build.specs.StageAnswers.{spelled_in}
use Rattle.bl_build.proofs.LoadSteps.{words_in}
use Rattle.bl_job.proofs.StageLemmas.{Goes}
use Rattle.bl_build.proofs.loading.decode_all.Given as goal

abbrev pub invariant-loop-word : goal.invariant-loop-word
invariant-loop-word l = record {
  goes : Goes decoding (parts_of (words_in l.words) (contents_in l.fn.contents.items)) (map spelled_in l.all.items)
      (parts_of (words_in (drop l.word-index l.words)) (contents_in (into_iter_items l.rest)));
  few : All (λ one. length (functions_of one.tree) < 2 ^ 32) l.all.items;
}
