use Rattle.std.proofs.Common.{drop}
use Rattle.bl_image.proofs.ReaderLemmas.{begins_both}
use Rattle.bl_image.proofs.read.Tuple2Read.read.Goals as goal

pub returns : goal.returns
returns g c =
    (c.in_ok-second.ensures.0, begins_both g.A.Read.spells (λ x. g.B.Read.spells) (drop c.args.at c.args.bytes.now) (drop c.in_ok-first.place c.args.bytes.now) (drop c.in_ok-second.end c.args.bytes.now) c.in_ok-first.first c.in_ok-second.second c.in_ok-first.ensures.1 c.in_ok-second.ensures.1)
