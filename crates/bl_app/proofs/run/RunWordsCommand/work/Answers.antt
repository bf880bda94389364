use Rattle.std.proofs.Common.{None, ap, length, rules, ◌∙◌}
use Rattle.bl_build.specs.StageAnswers.{prepared_in}
use Rattle.bl_words.specs.Words.{run_in}
use Rattle.bl_app.specs.RunJob.{run_staged}
use Rattle.bl_job.proofs.WorkLemmas.{as_many}
use Rattle.bl_app.proofs.run.RunWordsCommand.work.Goals as goal

pub two_files-requires : goal.two_files-requires
two_files-requires c = ap length c.as_slice.ensures.value ∙ as_many None (run_staged (run_in c.args.self.now)).reads c.args.contents.items c.requires.read

pub returns : goal.returns
returns c = record { made = prepared_in c.in_ok-prepared.prepared; passes = search rules; plans = c.in_ok-tell.ensures }
