use Rattle.std.proofs.Common.{◌+◌, ◌++◌, ◌∙◌, ap, drop, get_or, refl}
use Rattle.std.specs.List.{flat_map}
use Rattle.bl_report.specs.Reports.{protect_text}
use Rattle.bl_report.proofs.ReportLines.{items_all, items_next}
use Rattle.bl_report.proofs.lines.push_protects.Goals as goal

pub loop-site-preserved : goal.loop-site-preserved
loop-site-preserved c =
    let piece = protect_text c.args.program.now c.args.paths.now in
    let sites = c.args.sites.now in
    let i = c.loop-site.site-index in
    ap (λ t. t ++ flat_map piece (drop (i + 1) sites)) c.in_ok-push_protect.ensures
    ∙ items_next piece c.loop-site.text.items sites i (get_or sites i 0) 0 c.loop-site-test.true refl ∙ c.loop-site.invariant

pub returns : goal.returns
returns c = items_all (protect_text c.args.program.now c.args.paths.now) c.loop-site.text.items _ c.args.sites.now c.loop-site.site-index c.loop-site-test.false c.loop-site.invariant
