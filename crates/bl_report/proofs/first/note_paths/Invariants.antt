use Rattle.std.proofs.Common.{◌≡◌, ◌<◌, ℕ, length, take}
use Rattle.bl_report.specs.SiteTables.{IsFirst, noted}
use Rattle.bl_report.proofs.first.note_paths.Given as goal

-- the paths so far are noted
abbrev pub invariant-loop-index : goal.invariant-loop-index
invariant-loop-index l = record {
  places : length l.firsts ≡ length l.fn.firsts;
  first : (s : ℕ) → s < length l.fn.firsts → IsFirst l.paths (take l.index l.paths) s (noted l.firsts s);
}
