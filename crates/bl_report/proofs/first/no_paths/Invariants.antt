use Rattle.std.proofs.Common.{◌≡◌, None, replicate}
use Rattle.bl_report.proofs.first.no_paths.Given as goal

abbrev pub invariant-loop : goal.invariant-loop
invariant-loop l = l.firsts.items ≡ replicate l.counter None
