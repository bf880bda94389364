use Rattle.std.proofs.Common.{◌≡◌, ◌<◌, ℕ, length, map, take}
use Rattle.bl_base.specs.declared.number.Pos.{Pos}
use Rattle.bl_report.specs.SiteTables.{also_noted, noted}
use Rattle.bl_report.proofs.first.note_path.Given as goal

abbrev pub invariant-loop-site : goal.invariant-loop-site
invariant-loop-site l = record {
  places : length l.firsts ≡ length l.fn.firsts;
  noted : (s : ℕ) → s < length l.fn.firsts → noted l.firsts s ≡ also_noted l.index s (take l.site-index (map (λ (p : Pos). p.0) l.sites)) (noted l.fn.firsts s);
}
