use Rattle.std.proofs.Common.{ap, arith, length}
use Rattle.bl_cmd.proofs.TableLemmas.{place_within, reads_at}
use Rattle.bl_program.specs.declared.command.Command.{Command}
use Rattle.bl_cmd.proofs.place.Place.before.Goals as goal

pub offset_bounds-as_slice-self : goal.offset_bounds-as_slice-self
offset_bounds-as_slice-self c =
    let within = place_within _ c.requires.place in
    let few = c.requires.place.tables.rule.commands in
    omega arith

pub bounds-as_slice-self : goal.bounds-as_slice-self
bounds-as_slice-self c =
    let within = place_within _ c.requires.place in
    omega (arith, ap (length {A = Command}) c.as_slice.ensures)

pub returns : goal.returns
returns c =
    let within = place_within _ c.requires.place in
    reads_at _ _ _ _ c.as_slice.ensures (omega arith)
