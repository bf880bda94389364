use Rattle.std.proofs.Common.{◌≡◌, ◌+◌, ◌++◌, ◌∷◌, [], take}
use Rattle.std.specs.List.{slice_index_or}
use Rattle.std.proofs.lemmas.List.{take_more}
use Rattle.bl_ct.specs.declared.search.Cause.TheVariants as cause_
use Rattle.bl_ct.proofs.SearchVisits.{visits_push}
use Rattle.bl_ct.specs.declared.facts.Declared.{Declared}
use Rattle.bl_ct.proofs.search.find_declared.Goals as goal

pub loop-secret-preserved : goal.loop-secret-preserved
loop-secret-preserved c =
    let loop = c.loop-secret in
    let lt = c.loop-secret-test.true in
    let d0 : Declared = slice_index_or c.args.secrets.now loop.secret-index (record { var = 0; origin = Rattle.bl_graph.specs.declared.secret.Origin.TheVariants.Parameter 0 0 }) in
    let more : take (loop.secret-index + 1) c.args.secrets.now ≡ take loop.secret-index c.args.secrets.now ++ d0 ∷ [] = take_more c.args.secrets.now loop.secret-index (record { var = 0; origin = Rattle.bl_graph.specs.declared.secret.Origin.TheVariants.Parameter 0 0 }) lt in
    rw more (visits_push c.args.names.now (λ d step. step ≡ record { var = d.var; cause = cause_.Declared d.origin }) (λ d v. v ≡ d.var) (take loop.secret-index c.args.secrets.now) d0 c.args.marks.now.items loop.marks.items c.find.new.marks.items c.args.queue.now.items loop.queue.items c.find.new.queue.items loop.invariant c.in_ok-find.ensures)
