use Rattle.std.proofs.Common.{None}
use Rattle.bl_words.specs.Words.{twin_in}
use Rattle.bl_app.specs.TwinJob.{twin_staged}
use Rattle.bl_job.proofs.WorkLemmas.{as_many}
use Rattle.bl_app.proofs.twin.twins_of.Goals as goal

pub four_files-requires : goal.four_files-requires
four_files-requires c = as_many None (twin_staged (twin_in c.args.words.now)).reads c.args.contents.now c.requires

pub returns-clause-staged : goal.returns-clause-staged
returns-clause-staged c = rw c.four_files.ensures c.prepare_twins.ensures.staged
