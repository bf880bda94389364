use Rattle.std.proofs.Common.{ℕ, List, true, slice_index, arith, subst, ◌∙◌}
use Rattle.std.specs.Prelude.{IsTrue, ◌↔◌}
use Rattle.std.specs.List.{Contains}
use Rattle.std.proofs.lemmas.List.{take_all, length-set}
use Rattle.bl_graph.specs.Names.{place_of}
use Rattle.bl_ct.specs.SecretSearch.{IsTable, mark_of}
use Rattle.bl_ct.proofs.NameTables.{table_within}
use Rattle.bl_ct.proofs.EndTables.{marked_more}
use Rattle.bl_ct.proofs.ends.marked.Goals as goal

pub len-requires : goal.len-requires
len-requires c = c.requires.few

pub index_mut-requires : goal.index_mut-requires
index_mut-requires c =
    let loop = c.loop-v in
    let is = c.number_of-place.ensures.is in
    let table : IsTable c.args.names.now loop.marks.items = record { rise = c.requires.rise; places = loop.invariant.places } in
    let within = table_within c.args.names.now loop.marks.items table (slice_index c.args.list.now loop.v-index) (c.requires.named loop.v-index 0 c.loop-v-test.true) in
    omega arith

pub loop-v-preserved : goal.loop-v-preserved
loop-v-preserved c =
    let loop = c.loop-v in
    let lt = c.loop-v-test.true in
    let names : List ℕ = c.args.names.now in
    let table : IsTable names loop.marks.items = record { rise = c.requires.rise; places = loop.invariant.places } in
    rw c.number_of-place.ensures.is (record {
      places = length-set loop.marks.items (place_of names (slice_index c.args.list.now loop.v-index)) true ∙ loop.invariant.places;
      exact = marked_more names loop.marks.items c.args.list.now loop.v-index lt table (c.requires.named loop.v-index 0 lt) loop.invariant.exact;
    })

pub returns-clause-exact : goal.returns-clause-exact
returns-clause-exact c =
    let past = c.loop-v-test.false in
    subst (λ l. (v : ℕ) → IsTrue (mark_of c.args.names.now c.loop-v.marks.items v) ↔ Contains l v) (take_all c.loop-v.v-index c.args.list.now (omega arith)) c.loop-v.invariant.exact
