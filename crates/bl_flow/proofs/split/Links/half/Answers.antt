use Rattle.std.proofs.Common.{arith, length, ap}
use Rattle.bl_flow.specs.Split.{links_behind}
use Rattle.bl_flow.proofs.NodeLinks.{behind_count}
use Rattle.bl_flow.proofs.ReverseLinks.{both_count}
use Rattle.bl_flow.proofs.split.Links.half.Goals as goal

pub returns-clause-half : goal.returns-clause-half
returns-clause-half c =
    let both = both_count (links_behind c.self.inside.nodes c.self.inside.outer.items) in
    let behind = behind_count c.self.inside.nodes c.self.inside.outer.items in
    let same = ap length c.self.view_is in let outer = ap length c.deref.ensures.value in let count = c.count_of.ensures.count in omega arith

pub returns-clause-sum : goal.returns-clause-sum
returns-clause-sum c =
    let both = both_count (links_behind c.self.inside.nodes c.self.inside.outer.items) in
    let behind = behind_count c.self.inside.nodes c.self.inside.outer.items in
    let same = ap length c.self.view_is in let outer = ap length c.deref.ensures.value in let count = c.count_of.ensures.count in omega arith
