use Rattle.bl_flow.specs.declared.network.LeastCut.{LeastCut}
use Rattle.bl_flow.proofs.NearestCut.{is_nearest}
use Rattle.bl_flow.proofs.flow.cut_in.Goals as goal

pub returns-clause-cut : goal.returns-clause-cut
returns-clause-cut g c =
    let cut : LeastCut = record { near_in = c.in_ok-near_in.near_in; near_out = c.in_ok-near_out.near_out; weight = c.in_ok-found.weight } in
    is_nearest g.n c.fill.new.capacities c.in_ok-found.found.items c.deref.result.now c.deref-2.result.now c.args.split.now.nodes cut
    c.requires.split_.in_range c.in_ok-found.ensures.small c.in_ok-found.ensures.full c.requires.split_.nodes_ c.deref.ensures.value c.deref-2.ensures.value
    c.in_ok-near_in.ensures.places c.in_ok-near_out.ensures.places c.in_ok-near_in.ensures.levels c.in_ok-near_out.ensures.levels
