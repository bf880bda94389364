use Rattle.std.proofs.Common.{◌≡◌, replicate, ap, ◌∙◌, arith}
use Rattle.bl_predict.proofs.driver.counters.Goals as goal

pub returns : goal.returns
returns c =
    let all : c.loop.counter ≡ c.args.count = omega (arith, c.loop.invariant.1, c.loop-test.false) in
    c.loop.invariant.0 ∙ ap (λ n. replicate n 1) all
