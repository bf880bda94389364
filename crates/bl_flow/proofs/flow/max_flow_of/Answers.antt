use Rattle.bl_flow.specs.MaxFlow.{IsMaxFlow}
use Rattle.bl_flow.proofs.NetworkOfLinks.{laid_out_again, told_again}
use Rattle.bl_flow.proofs.flow.max_flow_of.Goals as goal

pub flow_through-requires : goal.flow_through-requires
flow_through-requires c = laid_out_again c.args.n c.in_ok-layout.layout c.in_ok-layout.ensures

pub returns : goal.returns
returns c = told_again IsMaxFlow c.args.n c.in_ok-layout.layout c.flow_through.result c.in_ok-layout.ensures c.flow_through.ensures
