use Rattle.std.proofs.Common.{◌≡◌, take}
use Rattle.bl_ct.specs.SecretSearch.{Visits, Some_fits, Some_asks}
use Rattle.bl_ct.specs.declared.search.Cause.TheVariants as cause_
use Rattle.bl_ct.proofs.search.find_declared.Given as goal

abbrev pub invariant-loop-secret : goal.invariant-loop-secret
invariant-loop-secret l = Visits l.names (Some_fits (take l.secret-index l.secrets) (λ d step. step ≡ record { var = d.var; cause = cause_.Declared d.origin })) (Some_asks (take l.secret-index l.secrets) (λ d v. v ≡ d.var)) l.fn.marks.items l.marks.items l.fn.queue.items l.queue.items
