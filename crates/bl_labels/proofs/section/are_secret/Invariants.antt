use Rattle.std.proofs.Common.{◌≡◌, drop}
use Rattle.std.specs.List.{list_all}
use Rattle.bl_labels.specs.Entries.{is_secret}
use Rattle.bl_labels.proofs.section.are_secret.Given as goal

abbrev pub invariant-loop-entry : goal.invariant-loop-entry
invariant-loop-entry l = list_all is_secret (drop l.entry-index l.entries) ≡ list_all is_secret l.entries
