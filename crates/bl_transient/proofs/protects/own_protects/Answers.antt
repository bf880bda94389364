use Rattle.std.proofs.Common.{◌+◌, sym, subst, ◌∙◌, arith}
use Rattle.bl_base.proofs.PositionSets.{HoldsBelow, below_no, below_none, below_yes}
use Rattle.bl_program.specs.Sites.{is_protected}
use Rattle.bl_program.proofs.OwnProtects.{guarded_all}
use Rattle.bl_transient.proofs.protects.own_protects.Goals as goal
use Rattle.bl_transient.proofs.protects.own_protects.Goals.{then-is_protected+in_ok-insert, else-is_protected}

pub loop-s-init : goal.loop-s-init
loop-s-init c =
    subst (λ set. HoldsBelow (is_protected c.args.parts.now) set 0) (sym c.new-set.ensures) (below_none (is_protected c.args.parts.now))

pub loop-s-preserved : goal.loop-s-preserved
loop-s-preserved c =
    let own = sym c.is_protected.ensures in
    elim c.if-is_protected.branch as (λ _. HoldsBelow (is_protected c.args.parts.now) c.if-is_protected.set (c.loop-s.s + 1)) [
      | then-is_protected+in_ok-insert w ↦
          subst (λ set. HoldsBelow (is_protected c.args.parts.now) set (c.loop-s.s + 1)) (sym (w.set-is ∙ w.in_ok-insert.ensures.added))
          (below_yes (is_protected c.args.parts.now) c.loop-s.set c.loop-s.s c.loop-s.invariant (own ∙ w.if-is_protected.true))
      | else-is_protected w ↦
          subst (λ set. HoldsBelow (is_protected c.args.parts.now) set (c.loop-s.s + 1)) (sym w.set-is)
          (below_no (is_protected c.args.parts.now) c.loop-s.set c.loop-s.s c.loop-s.invariant (own ∙ w.if-is_protected.false))
    ]

pub returns : goal.returns
returns c =
    let past = c.loop-s-test.false in
    let within = c.loop-s.auto.s-end in
    let same = c.requires in
    guarded_all c.args.parts.now c.loop-s.set c.loop-s.s (omega arith) c.loop-s.invariant
