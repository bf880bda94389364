use Rattle.std.proofs.Common.{◌+◌, ◌++◌, ◌∙◌, ap, drop, get_or, refl}
use Rattle.std.specs.List.{flat_map}
use Rattle.bl_base.specs.declared.number.Pos.{Pos}
use Rattle.bl_report.specs.Reports.{place_text}
use Rattle.bl_report.proofs.ReportLines.{items_all, items_next}
use Rattle.bl_report.proofs.lines.push_places.Goals as goal

pub loop-site-preserved : goal.loop-site-preserved
loop-site-preserved c =
    let piece = λ (s : Pos). place_text s.0 in
    let sites = c.args.sites.now in
    let i = c.loop-site.site-index in
    let d : Pos = record { 0 = 0 } in
    ap (λ t. t ++ flat_map piece (drop (i + 1) sites)) c.in_ok-push_place.ensures
    ∙ items_next piece c.loop-site.text.items sites i (get_or sites i d) d c.loop-site-test.true refl ∙ c.loop-site.invariant

pub returns : goal.returns
returns c = items_all (λ (s : Pos). place_text s.0) c.loop-site.text.items _ c.args.sites.now c.loop-site.site-index c.loop-site-test.false c.loop-site.invariant
