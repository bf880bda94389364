use Rattle.std.proofs.Common.{◌≡◌, ◌++◌, map, Some, flat_map, append-nil, sym, ap, ◌∙◌}
use Rattle.bl_validate.specs.MayStand.{MayStand, entries, known}
use Rattle.bl_validate.proofs.CoverLemmas.{covers_list}
use Rattle.bl_validate.proofs.operands.Operands.push.Goals as goal

pub returns : goal.returns
unfolding MayStand
returns c =
    let settled = c.in_ok-settle.ensures in
    let front : flat_map entries c.settle.new.self.runs.items ≡ known c.args.self.now
    = sym (append-nil (flat_map entries c.settle.new.self.runs.items)) ∙ sym (ap (λ top. flat_map entries c.settle.new.self.runs.items ++ map Some top) settled.1) ∙ settled.0 in
    λ s. rw (front, settled.2) (covers_list c.args.self.now.unreachable (known c.args.self.now) c.args.types.now s)
