use Rattle.std.proofs.Common.{◌≡◌, ℕ, ◌<◌, ◌≤◌, ◌++◌, [], List, Bool, false, length, slice_index, take, drop, arith, sym, subst, ap, ◌∙◌, replicate}
use Rattle.std.proofs.lemmas.List.{get_or-map, get_or_default, length-map}
use Rattle.std.proofs.lemmas.List.Elements.{Contains-get_or}
use Rattle.std.specs.List.{Contains, slice_index_or}
use Rattle.bl_base.proofs.Lists.{marked_within}
use Rattle.bl_graph.specs.Arcs.{row_at, rows_in}
use Rattle.bl_transient.specs.Reachability.{IsVisited}
use Rattle.bl_transient.proofs.SearchMarks.{given_back, search_begins, search_next, search_ends}
use Rattle.bl_transient.proofs.search.reached.Goals as goal
use Rattle.bl_transient.proofs.search.reached.Goals.{After-deref, After-index}

pub loop-next-init : goal.loop-next-init
loop-next-init c =
    let auto = c.visit.auto.marks in
    let lent = c.deref_mut.ensures.len in
    let new : List Bool = c.visit.new.marks in
    let back : take c.in_ok-marks.marks.len (new ++ drop (length new) c.in_ok-marks.marks.items) ≡ new = given_back new (drop (length new) c.in_ok-marks.marks.items) c.in_ok-marks.marks.len (omega arith) in
    let clear : c.deref_mut.result.now ≡ replicate (length c.args.rows.now) false = c.deref_mut.ensures.value ∙ c.in_ok-marks.ensures.items_if_clones_equal (λ y e. e) in
    rw back (search_begins (rows_in c.args.rows.now) c.args.roots.now (length c.args.rows.now) c.deref_mut.result.now new c.visit.new.queue.items (sym (length-map c.args.rows.now (λ r. r.items))) clear
    (subst (λ q. IsVisited c.args.roots.now c.deref_mut.result.now new q c.visit.new.queue.items) c.new-queue.ensures.items c.in_ok-visit.ensures))

-- the next node of the queue has a row
node_is : (c : After-index) → (c.loop-next.next < length c.loop-next.queue.items) × (c.index.result.now ≡ slice_index c.loop-next.queue.items c.loop-next.next) × (c.index.result.now < length c.args.rows.now)
node_is c =
    let loop = c.loop-next in
    let lt : loop.next < length loop.queue.items = let e = c.len.ensures in let ok = loop.queue.ok.0 in let test = c.loop-next-test.true in omega arith in
    let node : c.index.result.now ≡ slice_index loop.queue.items loop.next = c.index.ensures ∙ get_or_default loop.queue.items loop.next _ 0 lt in
    let marked = marked_within loop.marks.items (slice_index loop.queue.items loop.next) (loop.invariant.queued (slice_index loop.queue.items loop.next) (Contains-get_or loop.queue.items loop.next 0 lt)) in
    let places = loop.invariant.places in
    let long = length-map c.args.rows.now (λ r. r.items) in
    (lt, node, omega arith)

row_is : (c : After-deref) → c.index.result.now < length c.args.rows.now → c.deref.result.now ≡ row_at (rows_in c.args.rows.now) c.index.result.now
row_is c below = c.deref.ensures.value ∙ ap (λ r. r.items) c.index-rows-node.is ∙ sym (get_or-map (λ r. r.items) c.args.rows.now c.index.result.now c.index-rows-node.result [] below)

pub bounds-rows-node : goal.bounds-rows-node
bounds-rows-node c = (node_is (goal.at.bounds-rows-node c).After-index).2

pub visit-requires-in-loop-next : goal.visit-requires-in-loop-next
visit-requires-in-loop-next c = λ k d within.
    let x : ℕ = slice_index_or c.deref.result.now k d in
    let row = row_is (goal.at.visit-requires-in-loop-next c).After-deref (node_is (goal.at.visit-requires-in-loop-next c).After-index).2 in
    let inside = c.requires.within c.index.result.now x (subst (λ r. Contains r x) row (Contains-get_or c.deref.result.now k d within)) in
    let places = c.loop-next.invariant.places in
    let long = length-map c.args.rows.now (λ r. r.items) in
    let value = ap length c.deref_mut-in-loop-next.ensures.value in
    omega arith

pub loop-next-preserved : goal.loop-next-preserved
loop-next-preserved c =
    let loop = c.loop-next in
    let node = node_is (goal.at.loop-next-preserved c).After-index in
    let auto = c.visit-in-loop-next.auto.marks in
    let lent = c.deref_mut-in-loop-next.ensures.len in
    let new : List Bool = c.visit-in-loop-next.new.marks in
    let places = loop.invariant.places in
    let back : take loop.marks.len (new ++ drop (length new) loop.marks.items) ≡ new = given_back new (drop (length new) loop.marks.items) loop.marks.len (omega arith) in
    rw back (search_next (rows_in c.args.rows.now) c.args.roots.now loop.marks.items loop.queue.items loop.next loop.invariant new c.visit-in-loop-next.new.queue.items c.deref.result.now node.0
    (row_is (goal.at.loop-next-preserved c).After-deref node.2 ∙ ap (row_at (rows_in c.args.rows.now)) node.1) (rw c.deref_mut-in-loop-next.ensures.value at c.in_ok-visit-2.ensures))

pub returns-clause-exact : goal.returns-clause-exact
returns-clause-exact c =
    let loop = c.loop-next in
    let ended : length loop.queue.items ≤ loop.next = let e = c.len.ensures in let ok = loop.queue.ok.0 in let test = c.loop-next-test.false in omega arith in
    search_ends (rows_in c.args.rows.now) c.args.roots.now loop.marks.items loop.queue.items loop.next loop.invariant ended
