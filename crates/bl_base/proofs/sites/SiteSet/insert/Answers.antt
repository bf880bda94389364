use Rattle.std.proofs.Common.{ap, ◌∙◌}
use Rattle.std.specs.FinSet.{from_list, insert, union}
use Rattle.bl_base.specs.Sites.{places}
use Rattle.bl_base.proofs.SetLemmas.{kept-marked, kept-put}
use Rattle.bl_base.proofs.sites.SiteSet.insert.Goals as goal

pub returns-in_ok-mark-clause-added : goal.returns-in_ok-mark-clause-added
returns-in_ok-mark-clause-added c =
    kept-marked c.self.inside.near.items c.mark.new.marks.items c.self.inside.far.keys c.args.p.0 c.in_ok-mark.ensures.marked
    ∙ ap (λ s. insert s c.args.p.0) c.self.view_is

pub returns-in_ok-insert-clause-added : goal.returns-in_ok-insert-clause-added
returns-in_ok-insert-clause-added c =
    ap (λ keys. union (places c.self.inside.near.items) (from_list keys)) c.in_ok-insert.ensures.keys
    ∙ kept-put c.self.inside.near.items c.self.inside.far.keys c.args.p.0
    ∙ ap (λ s. insert s c.args.p.0) c.self.view_is
