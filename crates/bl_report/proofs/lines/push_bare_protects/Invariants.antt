use Rattle.std.proofs.Common.{◌≡◌, ◌++◌, drop}
use Rattle.std.specs.List.{flat_map}
use Rattle.bl_report.specs.Reports.{bare_protect_text}
use Rattle.bl_report.proofs.lines.push_bare_protects.Given as goal

-- the text so far, and then the lines of the rest, is all
abbrev pub invariant-loop-site : goal.invariant-loop-site
invariant-loop-site l =
    l.text.items ++ flat_map (bare_protect_text l.program) (drop l.site-index l.sites) ≡ l.fn.text.items ++ flat_map (bare_protect_text l.program) l.sites
