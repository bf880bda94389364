use Rattle.std.proofs.Common.{◌∙◌, sym, subst}
use Rattle.std.proofs.lemmas.Option.{slice_get-get_or}
use Rattle.bl_cmd.proofs.EntrantLemmas.{entered_more, entered_length, entered_all}
use Rattle.bl_cmd.specs.Entrants.{AreEntrants}
use Rattle.bl_cmd.proofs.tables.entrants_of.Goals as goal

pub loop-from-preserved : goal.loop-from-preserved
loop-from-preserved c = record {
  len = entered_length c.args.commands.now c.loop-from.from _ _ _ c.note_command.ensures ∙ c.loop-from.invariant.len;
  with_entrant = entered_more c.args.commands.now c.loop-from.from _ _ _ (slice_get-get_or c.args.commands.now c.loop-from.from _ c.loop-from-test.true) c.note_command.ensures c.loop-from.invariant.with_entrant;
}

pub returns : goal.returns
returns c = subst (AreEntrants c.args.commands.now) (sym c.of.ensures) (entered_all c.args.commands.now _ _ c.loop-from-test.false c.loop-from.invariant.len c.loop-from.invariant.with_entrant)
