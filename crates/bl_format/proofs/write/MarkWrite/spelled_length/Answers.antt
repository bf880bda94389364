use Rattle.bl_format.proofs.LengthLemmas.{byte_long, long_as}
use Rattle.bl_format.proofs.write.MarkWrite.spelled_length.Goals as goal

pub returns : goal.returns
returns c = long_as (λ t h. (c.requires, h)) (byte_long _)
