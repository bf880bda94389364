use Rattle.bl_format.proofs.LengthLemmas.{two}
use Rattle.bl_format.proofs.write.Tuple2Write.spelled_length.Goals as goal

pub returns : goal.returns
returns g c = two c.spelled_length-first.ensures c.spelled_length.ensures c.saturating_add.ensures
