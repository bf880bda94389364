use Rattle.bl_job.proofs.WorkLemmas.{first_taken}
use Rattle.bl_job.proofs.contents.first_file.Goals as goal

pub returns : goal.returns
returns c = first_taken c.args.contents.items c.remove-first.new.self.items c.remove-first.result c.requires c.remove-first.ensures.value c.remove-first.ensures.by_index.2
