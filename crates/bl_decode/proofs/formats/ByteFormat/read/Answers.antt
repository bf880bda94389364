use Rattle.bl_decode.proofs.Sizes.{at_byte, none_byte}
use Rattle.bl_decode.proofs.formats.ByteFormat.read.Goals as goal

pub returns-then-not-stands_at : goal.returns-then-not-stands_at
returns-then-not-stands_at g c = none_byte g.row.B c.args.bytes.now c.args.at (λ stands. let h = c.stands_at.ensures.stands.1 stands in cc)

pub returns : goal.returns
returns g c = at_byte g.row.B c.args.bytes.now c.args.at (c.stands_at.ensures.stands.0 c.if-not-stands_at.false)
