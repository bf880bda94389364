use Rattle.std.proofs.Common.{None, ap, length, rules, ◌∙◌}
use Rattle.bl_build.specs.StageAnswers.{speculated_in}
use Rattle.bl_words.specs.Words.{spec_in}
use Rattle.bl_app.specs.SpecJob.{spec_staged}
use Rattle.bl_job.proofs.WorkLemmas.{as_many}
use Rattle.bl_app.proofs.spec.SpecWordsCommand.work.Goals as goal

pub three_files-requires : goal.three_files-requires
three_files-requires c = ap length c.as_slice.ensures.value ∙ as_many None (spec_staged (spec_in c.args.self.now)).reads c.args.contents.items c.requires.read

pub returns : goal.returns
returns c = record { made = speculated_in c.in_ok-speculation.speculation; passes = search rules; plans = c.in_ok-observe.ensures }
