use Rattle.std.proofs.Common.{◌≡◌, ℕ, ◌+◌, ◌∷◌, [], length, drop, subst, arith, length-append, ap, ◌∙◌}
use Rattle.bl_image.specs.ReaderAnswers.{Begins}
use Rattle.bl_image.proofs.ReaderLemmas.{passes}
use Rattle.bl_image.proofs.ReadChains.{counted, begins_more, none_more}
use Rattle.bl_image.proofs.read.read_each.Goals as goal

pub returns-in_err-thing : goal.returns-in_err-thing
returns-in_err-thing g c =
    let B = g.T.Read.spells in
    passes B (counted (λ state x. state) (λ state. B) (tt {0}) c.args.count) c.args.bytes.now c.loop.place c.args.at c.from_residual.result _ c.from_residual.ensures.1
    (none_more (λ state x. state) (λ state. B) (tt {0}) (drop c.args.at c.args.bytes.now) (drop c.loop.place c.args.bytes.now) c.loop.things c.args.count c.loop.invariant.so_far (omega arith)) c.in_err-thing.ensures

pub loop-preserved : goal.loop-preserved
loop-preserved g c =
    let pushed = c.in_ok-push.ensures.ok in
    let B = g.T.Read.spells in
    rw pushed (record {
      inside = c.in_ok-thing.ensures.0;
      so_far = begins_more (λ state x. state) (λ state. B) (tt {0}) (drop c.args.at c.args.bytes.now) (drop c.loop.place c.args.bytes.now) (drop c.in_ok-thing.after c.args.bytes.now) c.loop.things c.in_ok-thing.thing c.loop.invariant.so_far c.in_ok-thing.ensures.1;
      many = length-append c.loop.things (c.in_ok-thing.thing ∷ []) ∙ ap (λ n. n + 1) c.loop.invariant.many;
    })

pub returns : goal.returns
returns g c =
    let same : length c.loop.things ≡ c.args.count = omega (arith, c.loop.invariant.many) in
    (c.loop.invariant.inside, subst (λ (n : ℕ). Begins (counted (λ state x. state) (λ state. g.T.Read.spells) (tt {0}) n) (drop c.args.at c.args.bytes.now) c.loop.things (drop c.loop.place c.args.bytes.now)) same c.loop.invariant.so_far)
