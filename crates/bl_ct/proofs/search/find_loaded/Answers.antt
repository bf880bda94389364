use Rattle.std.proofs.Common.{◌≡◌, ◌+◌, ◌++◌, ◌∷◌, [], Some, take, arith, sym, subst, ◌∙◌}
use Rattle.std.specs.List.{slice_index_or}
use Rattle.std.proofs.lemmas.List.{take_more, take_all}
use Rattle.bl_ct.specs.declared.search.Cause.TheVariants as cause_
use Rattle.bl_ct.specs.SecretSearch.{Visits, IsFoundBy, Some_fits, Some_asks, entry_at}
use Rattle.bl_ct.proofs.SearchVisits.{visits_push}
use Rattle.bl_ct.specs.declared.facts.SecretLoad.{SecretLoad}
use Rattle.bl_ct.proofs.search.find_loaded.Goals as goal

pub find_written-requires-clause-table : goal.find_written-requires-clause-table
find_written-requires-clause-table c = record { rise = c.requires.table.rise; places = c.loop-load.invariant.places ∙ c.requires.table.places }

pub find_written-requires-clause-named : goal.find_written-requires-clause-named
find_written-requires-clause-named c = λ x e.
    let x0 : SecretLoad = slice_index_or c.args.loads.now c.loop-load.load-index (record { at = 0; memory = 0 }) in
    c.requires.named x0.at x (sym c.noted_at.ensures ∙ e)

pub loop-load-preserved : goal.loop-load-preserved
loop-load-preserved c =
    let loop = c.loop-load in
    let lt = c.loop-load-test.true in
    let x0 : SecretLoad = slice_index_or c.args.loads.now loop.load-index (record { at = 0; memory = 0 }) in
    let more : take (loop.load-index + 1) c.args.loads.now ≡ take loop.load-index c.args.loads.now ++ x0 ∷ [] = take_more c.args.loads.now loop.load-index (record { at = 0; memory = 0 }) lt in
    rw more (visits_push c.args.names.now (λ d. IsFoundBy (entry_at c.args.written.now d.at) (cause_.Loaded d.at d.memory)) (λ d v. entry_at c.args.written.now d.at ≡ Some v) (take loop.load-index c.args.loads.now) x0 c.args.marks.now.items loop.marks.items c.find_written.new.marks.items c.args.queue.now.items loop.queue.items c.find_written.new.queue.items loop.invariant
    (subst (λ o. Visits c.args.names.now (IsFoundBy o (cause_.Loaded x0.at x0.memory)) (λ v. o ≡ Some v) loop.marks.items c.find_written.new.marks.items loop.queue.items c.find_written.new.queue.items) c.noted_at.ensures c.in_ok-find_written.ensures))

pub returns : goal.returns
returns c =
    let past = c.loop-load-test.false in
    subst (λ l. Visits c.args.names.now (Some_fits l (λ d. IsFoundBy (entry_at c.args.written.now d.at) (cause_.Loaded d.at d.memory))) (Some_asks l (λ d v. entry_at c.args.written.now d.at ≡ Some v)) c.args.marks.now.items c.loop-load.marks.items c.args.queue.now.items c.loop-load.queue.items) (take_all c.loop-load.load-index c.args.loads.now (omega arith)) c.loop-load.invariant
