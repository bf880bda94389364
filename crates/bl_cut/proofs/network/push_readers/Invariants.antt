use Rattle.std.proofs.Common.{take}
use Rattle.bl_cut.specs.Network.{AreReaders}
use Rattle.bl_cut.proofs.network.push_readers.Given as goal

abbrev pub invariant-loop-read : goal.invariant-loop-read
invariant-loop-read l = AreReaders l.fn.nodes.items (take l.read-index l.reads) l.vars l.nodes.items
