use Rattle.std.proofs.Common.{◌≡◌, ◌∙◌, ap, arith, length}
use Rattle.bl_program.specs.Sites.{is_protected, weight_of}
use Rattle.bl_report.specs.Reports.{protects, site_count}
use Rattle.bl_report.proofs.ReportLines.{lines}
use Rattle.bl_report.proofs.text.counts.Goals as goal

pub returns : goal.returns
returns c =
    let program = c.args.parts.now in
    let kept = ap length c.requires.protects in
    let whole = c.args.sites.now.protects.ok.0 in
    let is = c.len-protect_count.ensures in
    let some : c.len-protect_count.result ≡ length (protects program) = omega arith in
    ap (λ v. v.items) c.into_bytes.ensures.value ∙ c.in_ok-text.ensures.ok
    ∙ lines _ _ _ _ _ (length program.functions) (length program.commands) (site_count program) (length (protects program)) (weight_of program (is_protected program)) c.len-functions.ensures
    c.len-commands.ensures c.requires.count some c.requires.weight
