use Rattle.std.proofs.Common.{◌≡◌, ◌+◌, ◌++◌, ◌∷◌, [], ℕ, Some, take, arith, sym, subst, ◌∙◌}
use Rattle.std.specs.List.{slice_index_or}
use Rattle.std.proofs.lemmas.List.{take_more, take_all}
use Rattle.bl_ct.specs.declared.search.Cause.TheVariants as cause_
use Rattle.bl_ct.specs.SecretSearch.{Visits, IsFoundBy, Some_fits, Some_asks, entry_at}
use Rattle.bl_ct.proofs.SearchVisits.{visits_push}
use Rattle.bl_ct.proofs.search.find_moved.Goals as goal

pub find_written-requires-clause-table : goal.find_written-requires-clause-table
find_written-requires-clause-table c = record { rise = c.requires.table.rise; places = c.loop-site.invariant.places ∙ c.requires.table.places }

pub find_written-requires-clause-named : goal.find_written-requires-clause-named
find_written-requires-clause-named c = λ x e.
    let x0 : ℕ = slice_index_or c.args.sites.now c.loop-site.site-index 0 in
    c.requires.named x0 x (sym c.noted_at.ensures ∙ e)

pub loop-site-preserved : goal.loop-site-preserved
loop-site-preserved c =
    let loop = c.loop-site in
    let lt = c.loop-site-test.true in
    let x0 : ℕ = slice_index_or c.args.sites.now loop.site-index 0 in
    let more : take (loop.site-index + 1) c.args.sites.now ≡ take loop.site-index c.args.sites.now ++ x0 ∷ [] = take_more c.args.sites.now loop.site-index 0 lt in
    rw more (visits_push c.args.names.now (λ s. IsFoundBy (entry_at c.args.written.now s) (cause_.Moved s c.args.before)) (λ s v. entry_at c.args.written.now s ≡ Some v) (take loop.site-index c.args.sites.now) x0 c.args.marks.now.items loop.marks.items c.find_written.new.marks.items c.args.queue.now.items loop.queue.items c.find_written.new.queue.items loop.invariant
    (subst (λ o. Visits c.args.names.now (IsFoundBy o (cause_.Moved x0 c.args.before)) (λ v. o ≡ Some v) loop.marks.items c.find_written.new.marks.items loop.queue.items c.find_written.new.queue.items) c.noted_at.ensures c.in_ok-find_written.ensures))

pub returns : goal.returns
returns c =
    let past = c.loop-site-test.false in
    subst (λ l. Visits c.args.names.now (Some_fits l (λ s. IsFoundBy (entry_at c.args.written.now s) (cause_.Moved s c.args.before))) (Some_asks l (λ s v. entry_at c.args.written.now s ≡ Some v)) c.args.marks.now.items c.loop-site.marks.items c.args.queue.now.items c.loop-site.queue.items) (take_all c.loop-site.site-index c.args.sites.now (omega arith)) c.loop-site.invariant
