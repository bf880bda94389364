use Rattle.std.proofs.Common.{◌≡◌, ◌++◌, [], ◌∷◌, flat_map, append-nil, ◌∙◌}
use Rattle.bl_validate.specs.MayStand.{MayStand, entries, known}
use Rattle.bl_validate.proofs.CoverLemmas.{covers_more, last_of_runs}
use Rattle.bl_validate.proofs.operands.Operands.push_any.Goals as goal

pub returns : goal.returns
unfolding MayStand
returns c =
    let is : flat_map entries c.push.new.self.items ++ [] ≡ known c.args.self.now ++ c.args.entry ∷ []
    = append-nil _ ∙ last_of_runs c.push.new.self.items c.args.self.now.runs.items (record { below = c.args.self.now.top; last = c.args.entry }) c.in_ok-push.ensures.items in
    λ s. rw is (covers_more c.args.self.now.unreachable (known c.args.self.now) c.args.entry s)
