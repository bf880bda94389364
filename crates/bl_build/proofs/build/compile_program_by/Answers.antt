use Rattle.std.proofs.Common.{Bor, List, map, ℕ}
use Rattle.bl_build.specs.WeightStages.{counted_sources}
use Rattle.bl_job.specs.WorkAnswers.{contents_in}
use Rattle.bl_build.proofs.WeightLemmas.{compiled_behind, refused_behind}
use Rattle.bl_build.proofs.build.compile_program_by.Goals as goal

-- the words
abbrev texts : List (Bor (List ℕ)) → List (List ℕ)
texts words = map (λ (word : Bor (List ℕ)). word.now) words

pub returns-in-Ok : goal.returns-in-Ok
returns-in-Ok c =
    compiled_behind (counted_sources (texts c.args.words.now) (contents_in c.args.contents.items) c.args.counts.now) c.in-Ok.linked c.build_by.result c.in-Ok.ensures c.build_by.ensures

pub returns-in-Err : goal.returns-in-Err
returns-in-Err c = refused_behind (counted_sources (texts c.args.words.now) (contents_in c.args.contents.items) c.args.counts.now) c.in-Err.error c.in-Err.ensures
