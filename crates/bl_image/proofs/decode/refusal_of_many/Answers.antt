use Rattle.std.proofs.Common.{sym, subst}
use Rattle.bl_image.specs.ReaderAnswers.{RefusesMany}
use Rattle.bl_image.proofs.CommandLimit.{alone_same, large_refused}
use Rattle.bl_image.proofs.decode.refusal_of_many.Goals as goal

pub returns : goal.returns
returns c =
    let same =
    alone_same c.new.result c.args.memories c.new-2.result c.new-3.result c.in-Ok.commands c.new-4.result c.new-5.result c.new.ensures c.new-2.ensures c.new-3.ensures c.in-Ok.ensures c.new-4.ensures c.new-5.ensures in
    subst (RefusesMany c.args.memories) (sym c.refusal_by.ensures) (large_refused c.args.memories _ c.well_formed-2.result same c.well_formed-2.ensures.ok c.well_formed-2.ensures.refused)
