use Rattle.std.proofs.Common.{◌+◌, ◌++◌, ◌∙◌, ap, drop}
use Rattle.std.specs.List.{flat_map}
use Rattle.bl_counts.specs.CountFiles.{site_text}
use Rattle.bl_counts.proofs.CountTexts.{all_lines, one_line}
use Rattle.bl_counts.specs.declared.counts.SiteCount.{SiteCount}
use Rattle.bl_counts.proofs.file.push_sites.Goals as goal

pub loop-one-preserved : goal.loop-one-preserved
loop-one-preserved c =
    let counts = c.args.counts.now in
    let i = c.loop-one.one-index in
    let d : SiteCount = record { at = record { 0 = 0 }; count = 0 } in
    ap (λ t. t ++ flat_map site_text (drop (i + 1) counts)) c.in_ok-push_site.ensures
    ∙ (one_line c.loop-one.text.items counts i d c.loop-one-test.true ∙ c.loop-one.invariant)

pub returns : goal.returns
returns c = all_lines c.loop-one.text.items c.args.counts.now c.loop-one.one-index _ c.loop-one-test.false c.loop-one.invariant
