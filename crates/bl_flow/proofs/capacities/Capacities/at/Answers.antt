use Rattle.std.proofs.Common.{arith, ◌≡◌, ◌-◌, ◌^◌, ◌<◌, length, slice_index, sym, ap, ◌∙◌}
use Rattle.std.proofs.lemmas.List.{get_or_default}
use Rattle.bl_flow.proofs.HalfCapacities.{seen_count, seen_through, seen_behind, seen_back}
use Rattle.bl_flow.proofs.capacities.Capacities.at.Goals as goal

pub index-requires : goal.index-requires
index-requires c =
    let count = seen_count c.self.inside.through.items c.self.inside.carried.items c.args.self.now c.self.view_is in
    let half = c.len-half.ensures in let above = c.if-link-half.true in let within = c.requires in omega arith

pub overflow_sub-result : goal.overflow_sub-result
overflow_sub-result c =
    let lt : c.args.link < length c.self.inside.carried.items = let half = c.len-half.ensures in let below = c.if-link-half.false in omega arith in
    let is = c.index-else-link-len.ensures ∙ get_or_default c.self.inside.carried.items c.args.link _ 0 lt in
    let fits = c.self.invariant.fit c.args.link (let through = c.len.ensures in let behind = c.if-link-len.false in omega arith) in
    omega arith

pub returns-then-link-half : goal.returns-then-link-half
returns-then-link-half c =
    let count = seen_count c.self.inside.through.items c.self.inside.carried.items c.args.self.now c.self.view_is in
    let half = c.len-half.ensures in let above = c.if-link-half.true in let within = c.requires in
    let same : c.args.link - c.len-half.result ≡ c.args.link - length c.self.inside.carried.items = omega arith in
    c.index.ensures ∙ get_or_default c.self.inside.carried.items (c.args.link - c.len-half.result) _ 0 (omega arith) ∙ ap (slice_index c.self.inside.carried.items) same
    ∙ sym (seen_back c.self.inside.through.items c.self.inside.carried.items c.args.self.now c.self.view_is c.args.link (omega arith) (omega arith))

pub returns-then-link-len : goal.returns-then-link-len
returns-then-link-len c =
    let half = c.len-half.ensures in let below = c.if-link-half.false in let through = c.len.ensures in let inside = c.if-link-len.true in
    c.index-then-link-len.ensures ∙ get_or_default c.self.inside.through.items c.args.link _ 0 (omega arith)
    ∙ sym (seen_through c.self.inside.through.items c.self.inside.carried.items c.args.self.now c.self.view_is c.args.link (omega arith) (omega arith))

pub returns-else-link-len : goal.returns-else-link-len
returns-else-link-len c =
    let half = c.len-half.ensures in let below = c.if-link-half.false in let through = c.len.ensures in let behind = c.if-link-len.false in
    ap (λ x. 2 ^ 63 - x) (c.index-else-link-len.ensures ∙ get_or_default c.self.inside.carried.items c.args.link _ 0 (omega arith))
    ∙ sym (seen_behind c.self.inside.through.items c.self.inside.carried.items c.args.self.now c.self.view_is c.args.link (omega arith) (omega arith))
