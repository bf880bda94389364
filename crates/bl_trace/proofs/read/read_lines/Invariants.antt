use Rattle.std.proofs.Common.{◌≡◌, ◌≤◌, ◌+◌, length}
use Rattle.bl_text.specs.Lines.{lines_left, lines_of}
use Rattle.bl_trace.specs.StartFiles.{said}
use Rattle.bl_trace.proofs.LineLemmas.{behind}
use Rattle.bl_trace.proofs.read.read_lines.Given as goal

-- what the lines so far and those of the rest say is what the file says
abbrev pub invariant-loop-line : goal.invariant-loop-line
invariant-loop-line l = record {
  numbers : l.number + length (lines_left l.line-iterator) ≤ length l.fn.bytes;
  rest : said l.params l.sizes 0 (lines_of l.fn.bytes)
      ≡ behind l.number l.start (said l.params l.sizes (length l.start.args) (lines_left l.line-iterator));
}
