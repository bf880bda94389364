use Rattle.std.proofs.Common.{Bool, false, ap, sym, ◌∙◌}
use Rattle.std.specs.Prelude.{◌||◌, get_or}
use Rattle.std.specs.List.{list_any}
use Rattle.std.specs.Ordering.{nat_cmp, eq_by_cmp}
use Rattle.std.specs.FinSet.{contains}
use Rattle.bl_base.proofs.SetLemmas.{contains-kept}
use Rattle.bl_base.proofs.sites.SiteSet.contains.Goals as goal

pub returns-then-is_marked : goal.returns-then-is_marked
returns-then-is_marked c =
    let any : Bool = list_any (eq_by_cmp nat_cmp c.args.p.0) c.self.inside.far.keys in
    c.if-is_marked.true
    ∙ ap (λ b. b || any) (sym c.if-is_marked.true ∙ c.is_marked.ensures ∙ ap (λ marks. get_or marks c.args.p.0 false) c.deref.ensures.value)
    ∙ sym (contains-kept c.self.inside.near.items c.self.inside.far.keys c.args.p.0)
    ∙ ap (λ s. contains s c.args.p.0) c.self.view_is

pub returns-else-is_marked : goal.returns-else-is_marked
returns-else-is_marked c =
    let any : Bool = list_any (eq_by_cmp nat_cmp c.args.p.0) c.self.inside.far.keys in
    c.contains.ensures
    ∙ ap (λ b. b || any) (sym c.if-is_marked.false ∙ c.is_marked.ensures ∙ ap (λ marks. get_or marks c.args.p.0 false) c.deref.ensures.value)
    ∙ sym (contains-kept c.self.inside.near.items c.self.inside.far.keys c.args.p.0)
    ∙ ap (λ s. contains s c.args.p.0) c.self.view_is
