use Rattle.bl_flow.specs.Cuts.{IsLeastCut}
use Rattle.bl_flow.proofs.NetworkOfLinks.{laid_out_again, told_again}
use Rattle.bl_flow.proofs.flow.least_cut_of.Goals as goal

pub cut_in-requires : goal.cut_in-requires
cut_in-requires c = laid_out_again c.args.n c.in_ok-layout.layout c.in_ok-layout.ensures

pub returns : goal.returns
returns c = told_again IsLeastCut c.args.n c.in_ok-layout.layout c.cut_in.result c.in_ok-layout.ensures c.cut_in.ensures.cut
