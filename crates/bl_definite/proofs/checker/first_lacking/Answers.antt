use Rattle.bl_definite.proofs.Questions.{clean_begins}
use Rattle.bl_definite.proofs.checker.first_lacking.Goals as goal

pub lacking_among-requires-clause-clean : goal.lacking_among-requires-clause-clean
lacking_among-requires-clause-clean c = clean_begins c.args.parts.now c.len.result _ c.len.ensures c.in_ok-no_stamps.ensures c.new.ensures.items
