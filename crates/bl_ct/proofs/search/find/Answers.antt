use Rattle.std.proofs.Common.{◌≡◌, ◌<◌, ℕ, List, Bool, true, false, length, arith, sym, subst, ◌∙◌}
use Rattle.bl_graph.specs.Arcs.{is_in}
use Rattle.bl_graph.specs.Names.{place_of}
use Rattle.std.proofs.lemmas.List.{get_or_default}
use Rattle.bl_ct.proofs.NameTables.{table_within}
use Rattle.bl_ct.proofs.SearchVisits.{visits_no, visits_yes}
use Rattle.bl_ct.proofs.search.find.Goals as goal

pub returns-else-not-index : goal.returns-else-not-index
returns-else-not-index c =
    let names : List ℕ = c.args.names.now in
    let marks : List Bool = c.args.marks.now.items in
    let place : ℕ = c.number_of-place.result in
    let is : place ≡ place_of names c.args.step.var = c.number_of-place.ensures.is in
    let within : place < length marks = let inside = table_within names marks c.requires.table c.args.step.var c.requires.named in omega arith in
    let marked : is_in marks place ≡ true = sym (c.index.ensures ∙ get_or_default marks place _ false within) ∙ c.if-not-index.false in
    visits_no names c.args.step marks c.args.queue.now.items (subst (λ n. is_in marks n ≡ true) is marked)

pub returns-in_ok-push : goal.returns-in_ok-push
returns-in_ok-push c =
    let names : List ℕ = c.args.names.now in
    let marks : List Bool = c.args.marks.now.items in
    let place : ℕ = c.number_of-place.result in
    let is : place ≡ place_of names c.args.step.var = c.number_of-place.ensures.is in
    let within : place < length marks = let inside = table_within names marks c.requires.table c.args.step.var c.requires.named in omega arith in
    let fresh : is_in marks place ≡ false = sym (c.index.ensures ∙ get_or_default marks place _ false within) ∙ c.if-not-index.true in
    rw (c.in_ok-push.ensures.items, is)
    (visits_yes names c.args.step marks c.args.queue.now.items (subst (λ n. is_in marks n ≡ false) is fresh) c.requires.table c.requires.named)
