use Rattle.std.proofs.Common.{arith, length, ap}
use Rattle.bl_flow.specs.Split.{links_behind}
use Rattle.bl_flow.proofs.NodeLinks.{behind_count}
use Rattle.bl_flow.proofs.ReverseLinks.{both_count}
use Rattle.bl_flow.proofs.split.Links.link.Goals as goal

pub link_behind-requires-clause-within : goal.link_behind-requires-clause-within
link_behind-requires-clause-within c =
    let both = both_count (links_behind c.self.inside.nodes c.self.inside.outer.items) in
    let behind = behind_count c.self.inside.nodes c.self.inside.outer.items in
    let same = ap length c.self.view_is in let outer = ap length c.deref.ensures.value in
    let sum = c.half-half.ensures.sum in let lt = c.if-place-half.true in omega arith

pub link_behind-requires-else-place-half-clause-within : goal.link_behind-requires-else-place-half-clause-within
link_behind-requires-else-place-half-clause-within c =
    let both = both_count (links_behind c.self.inside.nodes c.self.inside.outer.items) in
    let behind = behind_count c.self.inside.nodes c.self.inside.outer.items in
    let same = ap length c.self.view_is in let outer = ap length c.deref-else-place-half.ensures.value in
    let sum = c.half-half.ensures.sum in let above = c.if-place-half.false in let all = c.requires in omega arith
