use Rattle.std.proofs.Common.{◌+◌, ◌<◌, ℕ, ap, arith, false, length, map, refl, subst, sym, take, ◌∙◌}
use Rattle.std.specs.List.{All, slice_index_or}
use Rattle.std.proofs.lemmas.List.{get_or_read_under, take_all}
use Rattle.std.proofs.lemmas.Option.{slice_get_within}
use Rattle.bl_graph.specs.Graphs.{use_of}
use Rattle.bl_graph.specs.Names.{place_of}
use Rattle.bl_graph.proofs.AskedLists.{Marks, numbers_within}
use Rattle.bl_cut.specs.Network.{AreReaders}
use Rattle.bl_cut.proofs.AskedReaders.{next_marked, next_unmarked, readers_none}
use Rattle.bl_cut.proofs.network.push_readers.Goals as goal
use Rattle.bl_cut.proofs.network.push_readers.Goals.{then-index+in_ok-push, else-index}

pub marked-requires : goal.marked-requires
marked-requires c =
    subst (λ n. All (λ i. i < n) c.deref.result.now) (sym c.len.ensures)
    (subst (λ l. All (λ i. i < length c.args.names.now) l) (sym (c.deref.ensures.value ∙ c.in_ok-numbers.ensures))
    (numbers_within c.args.names.now c.requires.rise c.args.vars.now c.requires.named))

pub index-requires : goal.index-requires
index-requires c =
    let there = slice_get_within c.args.names.now c.number_of.result (slice_index_or c.args.reads.now c.loop-read.read-index (use_of 0 0)).var.0 c.number_of.ensures.at in
    let places = c.in_ok-marks.ensures.places in
    let len = c.len.ensures in
    omega (arith, c.in_ok-marks.marks.ok.0)

pub loop-read-init : goal.loop-read-init
loop-read-init c = readers_none c.args.nodes.now.items c.args.vars.now

pub loop-read-preserved : goal.loop-read-preserved
loop-read-preserved c =
    let names = c.args.names.now in
    let reads = c.args.reads.now in
    let vars = c.args.vars.now in
    let i : ℕ = c.loop-read.read-index in
    let k : ℕ = c.number_of.result in
    let marks = c.in_ok-marks.marks.items in
    let places = c.in_ok-marks.ensures.places in
    let len = c.len.ensures in
    let within : k < length marks = (let lt = slice_get_within names k (slice_index_or reads i (use_of 0 0)).var.0 c.number_of.ensures.at in omega arith) in
    let mark = get_or_read_under marks k (length marks) c.index.result.now false c.index.ensures within refl in
    let exact : Marks (map (place_of names) vars) marks = subst (λ l. Marks l marks) (c.deref.ensures.value ∙ c.in_ok-numbers.ensures) c.in_ok-marks.ensures.exact in
    elim c.if-index.branch as (λ _. AreReaders c.args.nodes.now.items (take (i + 1) reads) vars c.if-index.nodes.items) [
      | then-index+in_ok-push w ↦
          subst (λ l. AreReaders c.args.nodes.now.items (take (i + 1) reads) vars l) (sym (ap (λ v. v.items) w.nodes-is ∙ w.in_ok-push.ensures.items))
          (next_marked names c.requires.rise vars c.requires.named marks exact c.args.nodes.now.items c.loop-read.nodes.items reads i k (use_of 0 0) c.loop-read-test.true c.number_of.ensures.at c.loop-read.invariant (sym mark ∙ w.if-index.true))
      | else-index w ↦
          subst (λ l. AreReaders c.args.nodes.now.items (take (i + 1) reads) vars l) (sym (ap (λ v. v.items) w.nodes-is))
          (next_unmarked names c.requires.rise vars c.requires.named marks exact c.args.nodes.now.items c.loop-read.nodes.items reads i k (use_of 0 0) c.loop-read-test.true c.number_of.ensures.at c.loop-read.invariant (sym mark ∙ w.if-index.false))
    ]

pub returns : goal.returns
returns c =
    subst (λ l. AreReaders c.args.nodes.now.items l c.args.vars.now c.loop-read.nodes.items) (take_all c.loop-read.read-index c.args.reads.now c.loop-read-test.false) c.loop-read.invariant
