use Rattle.bl_report.specs.Reports.{bare_protect_text}
use Rattle.bl_report.proofs.ReportLines.{items_all}
use Rattle.bl_report.proofs.lines.push_bare_protects.Goals as goal

pub returns : goal.returns
returns c = items_all (bare_protect_text c.args.program.now) c.loop-site.text.items _ c.args.sites.now c.loop-site.site-index c.loop-site-test.false c.loop-site.invariant
