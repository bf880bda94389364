use Rattle.std.proofs.Common.{sym}
use Rattle.bl_rob.proofs.machine.Machine.outcome.Goals as goal

pub memories-requires-clause-whole : goal.memories-requires-clause-whole
memories-requires-clause-whole c = c.requires.whole c.in-Some.end (sym c.in-Some.ensures)
