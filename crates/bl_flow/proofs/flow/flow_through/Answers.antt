use Rattle.std.proofs.Common.{arith, slice_index, sym, ap, subst, ◌∙◌}
use Rattle.bl_flow.specs.Flows.{link_count, IsCarried}
use Rattle.bl_flow.proofs.FlowDecomposition.{carries_first}
use Rattle.bl_flow.proofs.FlowBounds.{load_fits}
use Rattle.bl_flow.proofs.Links.{count_of}
use Rattle.bl_flow.proofs.flow.flow_through.Goals as goal

pub paths_of-requires : goal.paths_of-requires
paths_of-requires g c =
    let is = carries_first g.n c.cut_in.new.capacities c.into_carried-carried.result.items c.in_ok-cut.cut.weight c.in_ok-cut.ensures.flow c.into_carried-carried.ensures.places c.into_carried-carried.ensures.amounts in
    (c.requires.split_, subst (λ carries. IsCarried g.n carries c.in_ok-cut.cut.weight) (sym c.deref_mut.ensures.value) is)

pub returns : goal.returns
returns g c =
    let flow = c.in_ok-cut.ensures.flow in
    record {
      paths = c.in_ok-paths.ensures.paths;
      loads = λ v w e. load_fits g.n c.cut_in.new.capacities c.in_ok-cut.cut.weight v w _ flow e (λ lt.
          let count = count_of g.n in
          let loads = c.in_ok-paths.ensures.loads v lt in
          let same = ap (λ carries. slice_index carries v) c.deref_mut.ensures.value ∙ c.into_carried-carried.ensures.amounts (link_count g.n) v (sym flow.places) (omega arith) in
          omega arith);
      cut = c.in_ok-cut.ensures.cut;
      weight = c.in_ok-paths.ensures.all;
    }
