use Rattle.std.proofs.Common.{◌≡◌, ◌≤◌, ◌+◌, length}
use Rattle.bl_text.specs.Items.{items_of}
use Rattle.bl_text.specs.Lines.{lines_left}
use Rattle.bl_text.proofs.ItemLemmas.{so_far}
use Rattle.bl_trace.specs.Traces.{directive_of, trace_of}
use Rattle.bl_trace.proofs.trace.read_trace.Given as goal

-- the directives so far and those of the rest are the file's
abbrev pub invariant-loop-line : goal.invariant-loop-line
invariant-loop-line l = record {
  numbers : l.number + length (lines_left l.line-iterator) ≤ length l.fn.bytes;
  rest : trace_of l.fn.bytes ≡ so_far directive_of l.number l.directives (items_of directive_of (lines_left l.line-iterator));
}
