use Rattle.std.proofs.Common.{◌≡◌, ◌<◌, ◌≤◌, [], ℕ, List, Bool, false, Option, Some, length, arith, sym, subst, ap, ◌∙◌, replicate}
use Rattle.std.specs.Prelude.{◌↔◌}
use Rattle.std.specs.List.{slice_index_or, Contains}
use Rattle.std.proofs.lemmas.List.{get_or-map, length-replicate}
use Rattle.std.proofs.lemmas.Option.{slice_get-get_or, slice_get_within}
use Rattle.bl_program.specs.declared.definitions.ProgramParts.{ProgramParts as Program}
use Rattle.bl_ct.specs.declared.search.Step.{Step}
use Rattle.bl_program.specs.Sites.{Reads}
use Rattle.bl_graph.specs.Arcs.{rows_in, row_at}
use Rattle.bl_graph.specs.Names.{place_of}
use Rattle.bl_ct.specs.SecretSearch.{Has}
use Rattle.bl_ct.proofs.KnownRanges.{names_rise, declared_in}
use Rattle.bl_ct.proofs.ReadRows.{elem}
use Rattle.bl_ct.proofs.NameTables.{marked_has}
use Rattle.bl_ct.proofs.SearchVisits.{search_begins, search_next, search_ends}
use Rattle.bl_ct.proofs.search.search.Goals as goal

pub find_declared-requires-clause-table : goal.find_declared-requires-clause-table
find_declared-requires-clause-table c = record {
  rise = names_rise c.args.known.now c.requires.is;
  places = ap length (c.in_ok-marks.ensures.items_if_clones_equal (λ y e. e)) ∙ (length-replicate {A = Bool} (length c.args.readers.now) false ∙ c.requires.places);
}

pub find_declared-requires-clause-named : goal.find_declared-requires-clause-named
find_declared-requires-clause-named c = λ k d lt.
    declared_in c.args.known.now c.requires.is (slice_index_or c.as_slice-declared.result.now k d)
    (elem c.as_slice-declared.result.now c.args.known.now.facts.now.declared c.as_slice-declared.ensures k d lt)

pub find_loaded-requires-clause-table : goal.find_loaded-requires-clause-table
find_loaded-requires-clause-table c = record {
  rise = names_rise c.args.known.now c.requires.is;
  places = c.in_ok-find_declared.ensures.places ∙ (ap length (c.in_ok-marks.ensures.items_if_clones_equal (λ y e. e)) ∙ (length-replicate {A = Bool} (length c.args.readers.now) false ∙ c.requires.places));
}

pub find_loaded-requires-clause-named : goal.find_loaded-requires-clause-named
find_loaded-requires-clause-named c = λ s x h. c.requires.is.names.are.writes s x ((c.requires.writes s x).0 h)

pub loop-next-init : goal.loop-next-init
loop-next-init c =
    let program : Program = c.args.known.now.program.now in
    let written : List (Option ℕ) = c.args.written.now in
    let names : List ℕ = c.args.known.now.names.now in
    search_begins program c.args.known.now.facts.now c.requires.is.facts names written c.requires.writes c.in_ok-marks.marks.items c.find_declared.new.marks.items c.find_loaded.new.marks.items c.find_declared.new.queue.items c.find_loaded.new.queue.items
    (c.in_ok-marks.ensures.items_if_clones_equal (λ y e. e) ∙ ap (λ n. replicate n false) c.requires.places)
    (rw (c.new-queue.ensures.items, c.as_slice-declared.ensures) at c.in_ok-find_declared.ensures) (rw c.as_slice-loads.ensures at c.in_ok-find_loaded.ensures)

pub number_of-place-requires-clause-has : goal.number_of-place-requires-clause-has
number_of-place-requires-clause-has c =
    let loop = c.loop-next in
    let lt : loop.next < length loop.queue.items = let e = c.len.ensures in let ok = loop.queue.ok.0 in let test = c.loop-next-test.true in omega arith in
    let step : Step = c.index.result.now in
    marked_has c.args.known.now.names.now loop.marks.items step.var loop.invariant.places (loop.invariant.queued step (loop.next, lt, sym c.index.ensures))

pub bounds-readers-place : goal.bounds-readers-place
bounds-readers-place c =
    let within = slice_get_within c.args.known.now.names.now c.number_of-place.result c.index.result.now.var c.number_of-place.ensures.at in
    let places = c.requires.places in
    omega arith

pub find_moved-requires-clause-table : goal.find_moved-requires-clause-table
find_moved-requires-clause-table c = record { rise = names_rise c.args.known.now c.requires.is; places = c.loop-next.invariant.places }

pub find_moved-requires-clause-named : goal.find_moved-requires-clause-named
find_moved-requires-clause-named c = λ s x h. c.requires.is.names.are.writes s x ((c.requires.writes s x).0 h)

pub loop-next-preserved : goal.loop-next-preserved
loop-next-preserved c =
    let program : Program = c.args.known.now.program.now in
    let names : List ℕ = c.args.known.now.names.now in
    let loop = c.loop-next in
    let lt : loop.next < length loop.queue.items = let e = c.len.ensures in let ok = loop.queue.ok.0 in let test = c.loop-next-test.true in omega arith in
    let step : Step = c.index.result.now in
    let place : ℕ = c.number_of-place.result in
    let within = slice_get_within names place step.var c.number_of-place.ensures.at in
    let places = c.requires.places in
    let below : place < length c.args.readers.now = omega arith in
    let row : c.deref.result.now ≡ row_at (rows_in c.args.readers.now) (place_of names step.var) =
    c.deref.ensures.value ∙ (ap (λ r. r.items) c.index-readers-place.is ∙ (sym (get_or-map (λ r. r.items) c.args.readers.now place c.index-readers-place.result [] below)
    ∙ ap (row_at (rows_in c.args.readers.now)) c.number_of-place.ensures.is)) in
    let has : Has loop.queue.items loop.next step = slice_get-get_or loop.queue.items loop.next step lt ∙ ap Some (sym c.index.ensures) in
    search_next program c.args.known.now.facts.now c.requires.is.facts names c.args.written.now c.requires.writes loop.marks.items loop.queue.items loop.next loop.invariant c.find_moved.new.marks.items c.find_moved.new.queue.items c.deref.result.now step has
    (subst (λ l. (s : ℕ) → Contains l s ↔ Reads program s step.var) (sym row) (c.requires.reads step.var)) c.in_ok-find_moved.ensures

pub returns : goal.returns
returns c =
    let loop = c.loop-next in
    let ended : length loop.queue.items ≤ loop.next = let e = c.len.ensures in let ok = loop.queue.ok.0 in let test = c.loop-next-test.false in omega arith in
    search_ends c.args.known.now.program.now c.args.known.now.facts.now c.requires.is.facts c.args.known.now.names.now c.args.written.now c.requires.writes loop.marks.items loop.queue.items loop.next loop.invariant ended
