use Rattle.std.proofs.Common.{◌≡◌, ◌≤◌, ◌<◌, ◌+◌, ◌^◌, length}
use Rattle.std.specs.List.{All}
use Rattle.bl_text.specs.Items.{items_of}
use Rattle.bl_text.specs.Lines.{lines_left, lines_of}
use Rattle.bl_text.proofs.ItemLemmas.{so_far}
use Rattle.bl_counts.specs.CountFiles.{site_of}
use Rattle.bl_counts.proofs.file.read_sites.Given as goal

-- the sites so far and those of the rest are the file's
abbrev pub invariant-loop-line : goal.invariant-loop-line
invariant-loop-line l = record {
  numbers : l.number + length (lines_left l.line-iterator) ≤ length l.fn.bytes;
  small : All (λ one. one.count < 2 ^ 32) l.counts;
  rest : items_of site_of (lines_of l.fn.bytes) ≡ so_far site_of l.number l.counts (items_of site_of (lines_left l.line-iterator));
}
