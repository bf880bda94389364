use Rattle.std.proofs.Common.{◌≡◌, Some, take}
use Rattle.bl_ct.specs.SecretSearch.{Visits, IsFoundBy, Some_fits, Some_asks, entry_at}
use Rattle.bl_ct.specs.declared.search.Cause.TheVariants as cause_
use Rattle.bl_ct.proofs.search.find_moved.Given as goal

abbrev pub invariant-loop-site : goal.invariant-loop-site
invariant-loop-site l = Visits l.names (Some_fits (take l.site-index l.sites) (λ s. IsFoundBy (entry_at l.written s) (cause_.Moved s l.before))) (Some_asks (take l.site-index l.sites) (λ s v. entry_at l.written s ≡ Some v)) l.fn.marks.items l.marks.items l.fn.queue.items l.queue.items
