use Rattle.std.proofs.Common.{◌≡◌, ◌≤◌, ◌+◌, length, take, drop}
use Rattle.bl_text.specs.Lines.{lines_left, lines_of}
use Rattle.bl_iface.specs.Files.{Say}
use Rattle.bl_iface.specs.Names.{AreNames}
use Rattle.bl_iface.proofs.read.read_iface.Given as goal

-- the functions of the lines so far, and their names
abbrev pub invariant-loop-line : goal.invariant-loop-line
invariant-loop-line l = record {
  numbers : l.number + length (lines_left l.line-iterator) ≤ length l.fn.bytes;
  rest : lines_left l.line-iterator ≡ drop l.number (lines_of l.fn.bytes);
  say : Say (take l.number (lines_of l.fn.bytes)) l.functions;
  names : AreNames l.functions l.names;
}
