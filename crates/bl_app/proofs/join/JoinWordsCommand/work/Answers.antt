use Rattle.std.proofs.Common.{None, ap, length, rules, ◌∙◌}
use Rattle.bl_build.specs.StageAnswers.{union_in}
use Rattle.bl_words.specs.Words.{join_in}
use Rattle.bl_app.specs.JoinJob.{join_staged}
use Rattle.bl_job.proofs.WorkLemmas.{as_many}
use Rattle.bl_app.proofs.join.JoinWordsCommand.work.Goals as goal

pub three_files-requires : goal.three_files-requires
three_files-requires c = ap length c.as_slice.ensures.value ∙ as_many None (join_staged (join_in c.args.self.now)).reads c.args.contents.items c.requires.read

pub returns : goal.returns
returns c = record { made = union_in c.in_ok-union.union; passes = search rules; plans = c.in_ok-plan_of.ensures }
