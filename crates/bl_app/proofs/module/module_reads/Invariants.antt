use Rattle.std.proofs.Common.{◌≡◌, ◌++◌, Bor, List, ℕ, map, drop}
use Rattle.bl_app.specs.CompileJobs.{module_read}
use Rattle.bl_job.specs.WorkAnswers.{file_in, read_in}
use Rattle.bl_app.proofs.module.module_reads.Given as goal

abbrev pub invariant-loop-word : goal.invariant-loop-word
invariant-loop-word l =
    map read_in l.reads.items ++ map module_read (map (λ (word : Bor (List ℕ)). word.now) (drop l.word-index l.modules))
    ≡ map file_in l.files ++ map module_read (map (λ (word : Bor (List ℕ)). word.now) l.modules)
