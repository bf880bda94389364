use Rattle.std.proofs.Common.{arith, ◌≡◌, ◌+◌, ◌-◌, length, slice_index, sym, ap, ◌∙◌}
use Rattle.bl_flow.proofs.HalfCapacities.{seen_count, seen_back}
use Rattle.bl_flow.proofs.capacities.Capacities.into_carried.Goals as goal

pub returns-clause-places : goal.returns-clause-places
returns-clause-places c = λ half e.
    let count = seen_count c.self.inside.through.items c.self.inside.carried.items c.args.self c.self.view_is in omega arith

pub returns-clause-amounts : goal.returns-clause-amounts
returns-clause-amounts c = λ half k e lt.
    let count = seen_count c.self.inside.through.items c.self.inside.carried.items c.args.self c.self.view_is in
    let same : k + half - length c.self.inside.carried.items ≡ k = omega arith in
    sym (seen_back c.self.inside.through.items c.self.inside.carried.items c.args.self c.self.view_is (k + half) (omega arith) (omega arith) ∙ ap (slice_index c.self.inside.carried.items) same)
