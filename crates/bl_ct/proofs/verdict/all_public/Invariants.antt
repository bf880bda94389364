use Rattle.std.proofs.Common.{◌≡◌, replicate}
use Rattle.bl_base.specs.declared.names.Label.TheVariants as label
use Rattle.bl_ct.proofs.verdict.all_public.Given as goal

abbrev pub invariant-loop : goal.invariant-loop
invariant-loop l = l.labels.items ≡ replicate l.counter label.Public
