use Rattle.std.proofs.Common.{arith, ◌≡◌, ◌∙◌, ℕ, List, Some, ap, map, sym, subst, slice_get}
use Rattle.std.specs.Prelude.{IsTrue, ◌↔◌}
use Rattle.std.specs.FinSet as fin
use Rattle.std.specs.List.{All, Contains}
use Rattle.std.proofs.lemmas.List.{append_assoc}
use Rattle.bl_graph.specs.Arcs.{is_in}
use Rattle.bl_graph.specs.Names.{place_of}
use Rattle.bl_graph.proofs.NameLemmas.{few_names, reads_named, sinks_named}
use Rattle.bl_graph.proofs.AskedLists.{numbered_asked, numbers_within}
use Rattle.bl_transient.specs.Verdicts.{asked_of}
use Rattle.bl_transient.proofs.BarredUses.{are_bars}
use Rattle.bl_transient.proofs.bad.barred_uses.Goals as goal
use Rattle.bl_transient.proofs.bad.barred_uses.Goals.{After-deref}

pub numbered-requires-clause-has : goal.numbered-requires-clause-has
numbered-requires-clause-has c =
    subst (λ l. All (λ u. Contains c.args.names.now u.var.0) l) (sym c.as_slice.ensures)
    (reads_named c.args.program.now c.args.graph.now c.args.names.now c.requires.graph c.requires.names)

pub numbered-requires-2-clause-has : goal.numbered-requires-2-clause-has
numbered-requires-2-clause-has c =
    subst (λ l. All (λ u. Contains c.args.names.now u.var.0) l) (sym c.as_slice-2.ensures)
    (sinks_named c.args.program.now c.args.graph.now c.args.names.now c.requires.graph c.requires.names)

pub numbers_of-requires-clause-has : goal.numbers_of-requires-clause-has
numbers_of-requires-clause-has c = subst (λ l. All (λ x. Contains c.args.names.now x) l) (sym c.as_slice-3.ensures) c.requires.stable

pub len-requires : goal.len-requires
len-requires c = let lt = few_names c.args.program.now c.args.names.now c.ranges-2.ensures c.requires.names in omega arith

numbers_are : (c : After-deref) → c.deref.result.now ≡ map (place_of c.args.names.now) c.args.asked.now.stable
numbers_are c = c.deref.ensures.value ∙ c.in_ok-numbers.ensures ∙ ap (map (place_of c.args.names.now)) c.as_slice-3.ensures

pub marked-requires : goal.marked-requires
marked-requires c = rw (c.len.ensures, numbers_are c) (numbers_within c.args.names.now c.requires.names.rise c.args.asked.now.stable c.requires.stable)

pub returns : goal.returns
returns c =
    let names : List ℕ = c.args.names.now in
    let marks = rw (numbers_are (goal.at.returns c).After-deref) at c.in_ok-stable.ensures.exact in
    let exact : (i x : ℕ) → slice_get names i ≡ Some x → IsTrue (is_in c.in_ok-stable.stable.items i) ↔ IsTrue ((asked_of c.args.asked.now).stable x) =
    λ i x e.
    let asked = numbered_asked names c.requires.names.rise c.args.asked.now.stable c.requires.stable i x e in
    (λ h. asked.0 ((marks i).0 h), λ h. (marks i).1 (asked.1 h)) in
    rw (
      c.in_ok-push_loads.ensures,
      c.in_ok-push_reads.ensures,
      c.in_ok-extend_from_slice.ensures.items,
      c.new-uses.ensures.items,
      c.deref-2.ensures.value,
      c.deref-3.ensures.value,
      c.deref-4.ensures.value,
      c.deref-5.ensures.value,
      c.deref-6.ensures.value,
      c.deref-7.ensures.value,
      c.in_ok-reads.ensures,
      c.in_ok-sinks.ensures,
      c.as_slice.ensures,
      c.as_slice-2.ensures,
      c.as_slice-4.ensures,
      append_assoc,
    )
    (are_bars (asked_of c.args.asked.now) c.args.program.now c.args.graph.now c.requires.graph names c.requires.names (fin.contains c.args.protects.now) c.in_ok-written.written.items c.in_ok-written.ensures
    c.in_ok-stable.stable.items exact)
