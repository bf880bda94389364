use Rattle.std.proofs.Common.{◌<◌, ◌∙◌, ℕ, ap, sym, subst, length}
use Rattle.std.specs.Prelude.{IsTrue, ◌↔◌}
use Rattle.std.specs.List.{All, Contains}
use Rattle.bl_graph.specs.Arcs.{RowsOf, is_in, row_at, rows_in}
use Rattle.bl_graph.specs.declared.arcs.Arc.{Arc}
use Rattle.bl_transient.specs.Reachability.{Reached, moves_from}
use Rattle.bl_transient.proofs.UnprotectedWrites.{moves_within, roots_within, rows_within, spread_are}
use Rattle.bl_transient.proofs.moves.spread.Goals as goal
use Rattle.bl_transient.proofs.moves.spread.Goals.{After-deref-2}

pub rows_of-requires : goal.rows_of-requires
rows_of-requires c =
    subst (λ l. All (λ (m : Arc). m.from < c.args.count) l) (sym (c.deref.ensures.value ∙ c.in_ok-moves.ensures))
    (moves_within c.args.written.now c.args.transient.now c.args.loads.now c.args.reads.now c.args.count c.requires.reads)

hold : (c : After-deref-2) → RowsOf (moves_from c.args.written.now c.args.reads.now) (rows_in c.deref-2.result.now)
hold c =
    subst (λ m. RowsOf m (rows_in c.deref-2.result.now)) (c.deref.ensures.value ∙ c.in_ok-moves.ensures)
    (subst (λ r. RowsOf c.deref.result.now (rows_in r)) (sym c.deref-2.ensures.value) c.in_ok-rows.ensures.rows)

pub reached-requires-clause-within : goal.reached-requires-clause-within
reached-requires-clause-within c =
    subst (λ n. (u v : ℕ) → Contains (row_at (rows_in c.deref-2.result.now) u) v → v < n) (sym (ap length c.deref-2.ensures.value ∙ c.in_ok-rows.ensures.places))
    (rows_within c.args.written.now c.args.transient.now c.args.loads.now c.args.reads.now c.args.count c.requires.written (rows_in c.deref-2.result.now)
    (hold (goal.at.reached-requires-clause-within c).After-deref-2))

pub reached-requires-clause-roots_in : goal.reached-requires-clause-roots_in
reached-requires-clause-roots_in c =
    subst (λ n. All (λ v. v < n) c.deref-3.result.now) (sym (ap length c.deref-2.ensures.value ∙ c.in_ok-rows.ensures.places))
    (subst (λ l. All (λ v. v < c.args.count) l) (sym (c.deref-3.ensures.value ∙ c.in_ok-roots.ensures))
    (roots_within c.args.written.now c.args.transient.now c.args.loads.now c.args.reads.now c.args.count c.requires.written c.requires.transient))

pub returns-clause-exact : goal.returns-clause-exact
returns-clause-exact c =
    spread_are c.args.written.now c.args.transient.now c.args.loads.now c.args.reads.now (rows_in c.deref-2.result.now) (hold (goal.at.returns-clause-exact c).After-deref-2)
    c.in_ok-marks.marks.items
    (subst (λ l. (x : ℕ) → IsTrue (is_in c.in_ok-marks.marks.items x) ↔ Reached (rows_in c.deref-2.result.now) l x) (c.deref-3.ensures.value ∙ c.in_ok-roots.ensures) c.in_ok-marks.ensures.exact)
