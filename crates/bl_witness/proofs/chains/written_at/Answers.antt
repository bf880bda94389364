use Rattle.std.proofs.Common.{◌∙◌, sym}
use Rattle.bl_witness.proofs.UsePlaces.{written_none, written_other}
use Rattle.bl_witness.proofs.chains.written_at.Goals as goal

pub returns-in-Some-2 : goal.returns-in-Some-2
returns-in-Some-2 c =
    written_other c.args.writes.now c.args.at.0 c.place_of-place.result c.requires c.place_of-place.ensures.place c.in-Some.found (sym c.use_at.ensures ∙ c.in-Some.is) c.if-found-at.false

pub returns-in-None : goal.returns-in-None
returns-in-None c = written_none c.args.writes.now c.args.at.0 c.place_of-place.result c.requires c.place_of-place.ensures.place (sym c.use_at.ensures ∙ c.in-None.is)
