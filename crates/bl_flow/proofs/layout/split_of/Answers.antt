use Rattle.std.proofs.Common.{arith, ◌≡◌, length, ap}
use Rattle.bl_flow.specs.declared.network.Network.{Network}
use Rattle.bl_flow.specs.Networks.{size}
use Rattle.bl_flow.proofs.LinksWithin.{half_count}
use Rattle.bl_flow.proofs.Links.{count_of}
use Rattle.bl_flow.proofs.FlowBounds.{flow_begins}
use Rattle.bl_flow.proofs.layout.split_of.Goals as goal

pub of-requires : goal.of-requires
of-requires c =
    let n : Network = c.args.n.now in
    let half = half_count n c.half.result c.in_ok-links.links c.in_ok-links.ensures c.half.ensures.sum in
    let count = count_of n in omega arith

pub returns : goal.returns
returns c =
    let n : Network = c.args.n.now in
    let len : length c.as_slice-nodes.result.now ≡ size n = ap length c.as_slice-nodes.ensures in
    let half = half_count n c.half.result c.in_ok-links.links c.in_ok-links.ensures c.half.ensures.sum in
    record {
      nodes_ = len;
      small = omega arith;
      links_ = c.in_ok-links.ensures;
      flow = flow_begins n c.in_ok-capacities.capacities c.half.result half c.in_ok-capacities.ensures;
    }
