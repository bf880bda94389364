use Rattle.std.proofs.Common.{◌≡◌, Some, take}
use Rattle.bl_ct.specs.SecretSearch.{Visits, IsFoundBy, Some_fits, Some_asks, entry_at}
use Rattle.bl_ct.specs.declared.search.Cause.TheVariants as cause_
use Rattle.bl_ct.proofs.search.find_loaded.Given as goal

abbrev pub invariant-loop-load : goal.invariant-loop-load
invariant-loop-load l = Visits l.names (Some_fits (take l.load-index l.loads) (λ d. IsFoundBy (entry_at l.written d.at) (cause_.Loaded d.at d.memory))) (Some_asks (take l.load-index l.loads) (λ d v. entry_at l.written d.at ≡ Some v)) l.fn.marks.items l.marks.items l.fn.queue.items l.queue.items
