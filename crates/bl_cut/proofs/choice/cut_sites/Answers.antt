use Rattle.std.proofs.Common.{false, ap, get_or, sym, subst, ◌∙◌, not, ◌+◌}
use Rattle.std.proofs.lemmas.Bool.{and_from, and_left, and_right, not_from_false, not_from_true}
use Rattle.std.proofs.lemmas.Option.{unwrap_or-slice_get}
use Rattle.bl_base.proofs.PositionSets.{HoldsBelow, below_none, below_no, below_yes}
use Rattle.bl_flow.specs.Cuts.{at_place, cut_of}
use Rattle.bl_cut.proofs.choice.cut_sites.Goals as goal
use Rattle.bl_cut.proofs.choice.cut_sites.Goals.{then-near_in-s+then-not-near_out-s+in_ok-insert, else-near_in-s, else-near_in-s-via-then-near_in-s+else-not-near_out-s, else-near_in-s-via-else-near_in-s}

pub loop-s-init : goal.loop-s-init
loop-s-init c = subst (λ set. HoldsBelow (cut_of c.args.cut.now) set 0) (sym c.new-set.ensures) (below_none (cut_of c.args.cut.now))

pub loop-s-preserved : goal.loop-s-preserved
loop-s-preserved c =
    let at_in = unwrap_or-slice_get c.args.cut.now.near_in c.loop-s.s false ∙ sym (ap (λ l. get_or l c.loop-s.s false) c.as_slice-near_in.ensures) in
    let at_out = unwrap_or-slice_get c.args.cut.now.near_out c.loop-s.s false ∙ sym (ap (λ l. get_or l c.loop-s.s false) c.as_slice-near_out.ensures) in
    elim c.if-near_in-s.branch as (λ _. HoldsBelow (cut_of c.args.cut.now) c.if-near_in-s.set (c.loop-s.s + 1)) [
      | then-near_in-s+then-not-near_out-s+in_ok-insert w ↦
          subst (λ set. HoldsBelow (cut_of c.args.cut.now) set (c.loop-s.s + 1)) (sym (w.set-is ∙ w.in_ok-insert.ensures.added))
          (below_yes (cut_of c.args.cut.now) c.loop-s.set c.loop-s.s c.loop-s.invariant
          (and_from (at_place c.args.cut.now.near_in c.loop-s.s) (not (at_place c.args.cut.now.near_out c.loop-s.s)) (at_in ∙ w.if-near_in-s.true) (not_from_false (at_place c.args.cut.now.near_out c.loop-s.s) (at_out ∙ w.if-not-near_out-s.true))))
      | else-near_in-s w ↦
          subst (λ set. HoldsBelow (cut_of c.args.cut.now) set (c.loop-s.s + 1)) (sym w.set-is)
          (elim w.else-near_in-s.branch as (λ _. HoldsBelow (cut_of c.args.cut.now) c.loop-s.set (c.loop-s.s + 1)) [
            | else-near_in-s-via-then-near_in-s+else-not-near_out-s v ↦
                below_no (cut_of c.args.cut.now) c.loop-s.set c.loop-s.s c.loop-s.invariant (and_right (at_place c.args.cut.now.near_in c.loop-s.s) (not (at_place c.args.cut.now.near_out c.loop-s.s)) (not_from_true (at_place c.args.cut.now.near_out c.loop-s.s) (at_out ∙ v.if-not-near_out-s.false)))
            | else-near_in-s-via-else-near_in-s v ↦
                below_no (cut_of c.args.cut.now) c.loop-s.set c.loop-s.s c.loop-s.invariant (and_left (at_place c.args.cut.now.near_in c.loop-s.s) (not (at_place c.args.cut.now.near_out c.loop-s.s)) (at_in ∙ v.if-near_in-s.false))
          ])
    ]
