use Rattle.std.proofs.Common.{◌∙◌, subst, sym, ap}
use Rattle.std.specs.List.{All}
use Rattle.bl_program.specs.Sites.{IsSite}
use Rattle.bl_report.specs.Reports.{protects}
use Rattle.bl_report.proofs.ProtectedSites.{protects_are_sites}
use Rattle.bl_report.proofs.text.protects_report.Goals as goal

pub push_bare_protects-requires : goal.push_bare_protects-requires
push_bare_protects-requires c =
    subst (All (IsSite c.args.program.now))
    (sym (c.deref.ensures.value ∙ c.in_ok-sites.ensures.protects ∙ ap protects (c.parts-parts.ensures.same ∙ c.program.ensures.same)))
    (protects_are_sites c.args.program.now)
