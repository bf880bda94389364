use Rattle.std.proofs.Common.{◌≡◌, ◌++◌, drop}
use Rattle.std.specs.List.{flat_map}
use Rattle.bl_counts.specs.CountFiles.{site_text}
use Rattle.bl_counts.proofs.file.push_sites.Given as goal

-- the text so far, and then the rest of the lines, is all
abbrev pub invariant-loop-one : goal.invariant-loop-one
invariant-loop-one l = l.text.items ++ flat_map site_text (drop l.one-index l.counts) ≡ l.fn.text.items ++ flat_map site_text l.counts
