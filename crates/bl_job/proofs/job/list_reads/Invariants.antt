use Rattle.std.proofs.Common.{◌≡◌, ◌++◌, map, drop}
use Rattle.bl_job.specs.WorkAnswers.{file_in, read_in}
use Rattle.bl_job.proofs.job.list_reads.Given as goal

abbrev pub invariant-loop-file : goal.invariant-loop-file
invariant-loop-file l = map read_in l.reads.items ++ map file_in (drop l.file-index l.files) ≡ map file_in l.files
