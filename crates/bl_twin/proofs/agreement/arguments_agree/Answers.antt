use Rattle.std.proofs.Common.{◌∙◌, refl, sym, arith}
use Rattle.std.proofs.lemmas.Bool.{false≢true}
use Rattle.bl_twin.proofs.PublicLists.{below_none, below_step, below_all, agree_there, item_at}
use Rattle.bl_twin.proofs.agreement.arguments_agree.Goals as goal

pub loop-i-init : goal.loop-i-init
loop-i-init c = below_none (λ param. param.label) c.args.params.now c.args.one.now c.args.other.now

pub loop-i-preserved : goal.loop-i-preserved
loop-i-preserved c =
    let lt = c.loop-i-test.true in
    let first = c.requires.one in
    let second = c.requires.other in
    below_step (λ param. param.label) c.args.params.now c.args.one.now c.args.other.now c.loop-i.i _ _ _
    (item_at c.args.params.now c.loop-i.i _ lt) (item_at c.args.one.now c.loop-i.i 0 (omega arith)) (item_at c.args.other.now c.loop-i.i 0 (omega arith))
    (c.argument_agrees.ensures.0 c.if-not-argument_agrees.false) c.loop-i.invariant

pub returns-then-not-argument_agrees : goal.returns-then-not-argument_agrees
returns-then-not-argument_agrees c =
    let lt = c.loop-i-test.true in
    let first = c.requires.one in
    let second = c.requires.other in (
      λ t. absurd (false≢true t),
      λ agree. sym c.if-not-argument_agrees.true ∙ c.argument_agrees.ensures.1
          (agree_there (λ param. param.label) c.args.params.now c.args.one.now c.args.other.now c.loop-i.i _ _ _
          (item_at c.args.params.now c.loop-i.i _ lt) (item_at c.args.one.now c.loop-i.i 0 (omega arith)) (item_at c.args.other.now c.loop-i.i 0 (omega arith)) agree),
    )

pub returns : goal.returns
returns c =
    (λ t. below_all (λ param. param.label) c.args.params.now c.args.one.now c.args.other.now c.loop-i.i c.loop-i-test.false c.loop-i.invariant, λ agree. refl)
