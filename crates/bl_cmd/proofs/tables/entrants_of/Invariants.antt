use Rattle.std.proofs.Common.{◌≡◌, length}
use Rattle.bl_cmd.specs.Entrants.{AreNoted}
use Rattle.bl_cmd.proofs.EntrantLemmas.{Before}
use Rattle.bl_cmd.proofs.tables.entrants_of.Given as goal

abbrev pub invariant-loop-from : goal.invariant-loop-from
invariant-loop-from l = record {
  len : length l.entrants.items ≡ length l.commands;
  with_entrant : AreNoted (Before l.commands l.from) l.entrants.items;
}
