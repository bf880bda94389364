use Rattle.std.proofs.lemmas.Option.{slice_get-get_or}
use Rattle.bl_definite.proofs.LinkLemmas.{noted_all, noted_more}
use Rattle.bl_definite.proofs.tables.entrants_of.Goals as goal

pub loop-from-preserved : goal.loop-from-preserved
loop-from-preserved c =
    noted_more c.args.commands.now c.loop-from.from _ c.loop-from.entrants c.note_command.new.entrants (slice_get-get_or c.args.commands.now c.loop-from.from _ c.loop-from-test.true)
    c.in_ok-note_command.ensures c.loop-from.invariant

pub returns : goal.returns
returns c = noted_all c.args.commands.now c.loop-from.from c.loop-from.entrants c.loop-from-test.false c.loop-from.invariant
