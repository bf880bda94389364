use Rattle.std.proofs.Common.{◌≡◌, drop}
use Rattle.bl_labels.specs.Faults.{sections_of}
use Rattle.bl_labels.proofs.section.next_section.Given as goal

abbrev pub invariant-loop-place : goal.invariant-loop-place
invariant-loop-place l = sections_of (drop l.from l.customs) ≡ sections_of (drop l.place l.customs)
