use Rattle.std.proofs.Common.{◌≡◌, ◌++◌, drop}
use Rattle.std.specs.List.{flat_map}
use Rattle.bl_base.specs.declared.number.Pos.{Pos}
use Rattle.bl_report.specs.Reports.{place_text}
use Rattle.bl_report.proofs.lines.push_places.Given as goal

-- the text so far, and then the rest of the positions, is all
abbrev pub invariant-loop-site : goal.invariant-loop-site
invariant-loop-site l =
    l.text.items ++ flat_map (λ (s : Pos). place_text s.0) (drop l.site-index l.sites) ≡ l.fn.text.items ++ flat_map (λ (s : Pos). place_text s.0) l.sites
