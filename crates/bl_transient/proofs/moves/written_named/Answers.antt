use Rattle.std.proofs.Common.{◌≡◌, ◌<◌, ◌∙◌, ℕ, ap, map, sym, subst}
use Rattle.std.specs.FinSet as fin
use Rattle.std.specs.List.{All, Contains}
use Rattle.bl_program.specs.declared.definitions.ProgramParts.{ProgramParts}
use Rattle.bl_graph.specs.Graphs.{use_of}
use Rattle.bl_graph.specs.Names.{numbered}
use Rattle.bl_graph.specs.Ranges.{commands}
use Rattle.bl_graph.proofs.NameLemmas.{writes_named}
use Rattle.bl_graph.specs.WrittenVariables.{AreUnprotected}
use Rattle.bl_transient.proofs.NamedSearch.{one_write, writes_within}
use Rattle.bl_transient.proofs.moves.written_named.Goals as goal
use Rattle.bl_transient.proofs.moves.written_named.Goals.{After-deref}

pub numbered-requires-clause-has : goal.numbered-requires-clause-has
numbered-requires-clause-has c =
    subst (λ l. All (λ u. Contains c.args.names.now u.var.0) l) (sym c.as_slice.ensures)
    (writes_named c.args.program.now c.args.graph.now c.args.names.now c.requires.graph c.requires.names)

writes_are : (c : After-deref) → c.deref.result.now ≡ map (numbered c.args.names.now) c.args.graph.now.writes
writes_are c = c.deref.ensures.value ∙ c.in_ok-writes.ensures ∙ ap (map (numbered c.args.names.now)) c.as_slice.ensures

pub written_free-requires-clause-within : goal.written_free-requires-clause-within
written_free-requires-clause-within c =
    let count = c.len-count.ensures ∙ ap (λ (p : ProgramParts). commands p) (c.parts.ensures.same ∙ c.program.ensures.same) in
    subst (λ l. All (λ w. w.at.0 < c.len-count.result) l) (sym (writes_are (goal.at.written_free-requires-clause-within c).After-deref))
    (writes_within c.args.program.now c.args.graph.now c.requires.graph c.args.names.now c.requires.names c.ranges-2.ensures c.len-count.result count)

pub written_free-requires-clause-one : goal.written_free-requires-clause-one
written_free-requires-clause-one c =
    subst (λ l. (s x y : ℕ) → Contains l (use_of s x) → Contains l (use_of s y) → x ≡ y) (sym (writes_are (goal.at.written_free-requires-clause-one c).After-deref))
    (one_write c.args.program.now c.args.graph.now c.requires.graph c.args.names.now c.requires.names)

pub returns : goal.returns
returns c = subst (λ l. AreUnprotected l (fin.contains c.args.protects.now) c.in_ok-written.written.items) (writes_are (goal.at.returns c).After-deref) c.in_ok-written.ensures
