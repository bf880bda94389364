use Rattle.std.proofs.Common.{ap, arith, length, Option}
use Rattle.bl_cmd.proofs.TableLemmas.{place_within, reads_at}
use Rattle.bl_cmd.specs.declared.tables.Entrants.{Entrants}
use Rattle.bl_cmd.proofs.place.Place.entrants_of.Goals as goal

pub offset_bounds-as_slice-self : goal.offset_bounds-as_slice-self
offset_bounds-as_slice-self c =
    let within = place_within _ c.requires.place in
    let few = c.requires.place.tables.rule.commands in
    omega arith

pub bounds-as_slice-self : goal.bounds-as_slice-self
bounds-as_slice-self c =
    let within = place_within _ c.requires.place in
    let len = c.requires.place.tables.entrants.len in
    omega (arith, ap (length {A = Option Entrants}) c.as_slice.ensures)

pub returns : goal.returns
returns c =
    let within = place_within _ c.requires.place in
    let len = c.requires.place.tables.entrants.len in
    reads_at _ _ _ _ c.as_slice.ensures (omega arith)
