use Rattle.std.proofs.Common.{subst}
use Rattle.bl_program.specs.Programs.{IsProgram}
use Rattle.bl_graph.proofs.RangeLemmas.{in_range}
use Rattle.bl_graph.proofs.writes.ranges.Goals as goal

pub returns : goal.returns
returns c = in_range c.args.program.now (subst IsProgram c.program.ensures.same c.parts-parts.ensures.facts) c.program.ensures.rules
