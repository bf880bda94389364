use Rattle.std.proofs.Common.{rules, arith, ◌≡◌, ◌^◌, None, length, slice_get, unwrap_or, replicate, ap, ◌∙◌}
use Rattle.bl_flow.specs.declared.network.Network.{Network}
use Rattle.bl_flow.specs.Networks.{size}
use Rattle.bl_flow.proofs.HalfCapacities.{begins}
use Rattle.bl_flow.proofs.capacities.Capacities.of.Goals as goal

pub returns : goal.returns
returns c =
    let n : Network = c.args.n.now in
    let weights = c.as_slice-weights.ensures in
    let len : length c.as_slice-weights.result.now ≡ size n = ap length weights in
    let end = c.loop-v-test.false in let count = c.loop-v.invariant.places in let most = c.loop-v.auto.v-end in
    let nothing : c.in_ok-carried.carried.items ≡ replicate c.args.links 0 = search rules in
    begins n c.loop-v.through.items c.in_ok-carried.carried.items c.args.links (omega arith)
    (λ v lt. c.loop-v.invariant.all v (omega arith) ∙ ap (λ ws. unwrap_or (unwrap_or (slice_get ws v) None) (2 ^ 63)) weights) nothing
