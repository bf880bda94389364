use Rattle.std.proofs.Common.{◌∙◌, ap}
use Rattle.bl_program.specs.declared.definitions.ProgramParts.{ProgramParts}
use Rattle.bl_graph.proofs.GraphPasses.{made_graph}
use Rattle.bl_graph.proofs.listing.graph.Goals as goal

pub returns : goal.returns
returns c =
    made_graph c.args.program.now c.as_slice-commands.result.now c.in_ok-uses.uses.loads c.in_ok-writes.writes c.in_ok-uses.uses.reads c.in_ok-uses.uses.sinks
    (c.as_slice-commands.ensures ∙ ap (λ (p : ProgramParts). p.commands) (c.parts.ensures.same ∙ c.program.ensures.same))
    c.in_ok-uses.ensures.loads c.in_ok-writes.ensures c.in_ok-uses.ensures.reads c.in_ok-uses.ensures.sinks
