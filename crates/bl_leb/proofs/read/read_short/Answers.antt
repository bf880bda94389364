use Rattle.bl_leb.proofs.UnsignedPlaces.{short_never}
use Rattle.bl_leb.proofs.read.read_short.Goals as goal

pub returns-then-not-is_shortest-clause-none : goal.returns-then-not-is_shortest-clause-none
returns-then-not-is_shortest-clause-none c =
    short_never 64 c.args.bytes.now c.args.at c.in_ok-value.place c.in_ok-value.value c.in_ok-value.ensures.found
    (λ w h. c.is_shortest.ensures.longer w c.if-not-is_shortest.true h)
