use Rattle.std.proofs.Common.{arith, sym, subst}
use Rattle.std.specs.List.{All, Contains}
use Rattle.bl_graph.proofs.NameLemmas.{few_names, sinks_named}
use Rattle.bl_cut.specs.Choices.{KnowsIn}
use Rattle.bl_cut.proofs.FlowAnswers.{knows_sinks}
use Rattle.bl_cut.proofs.choice.lay_out.Goals as goal

pub sinks_by_variable-requires-clause-few : goal.sinks_by_variable-requires-clause-few
sinks_by_variable-requires-clause-few c =
    let few = few_names c.args.program.now c.in_ok-names.names c.ranges-2.ensures c.in_ok-names.ensures.names in
    omega arith

pub sinks_by_variable-requires-clause-rise : goal.sinks_by_variable-requires-clause-rise
sinks_by_variable-requires-clause-rise c = c.in_ok-names.ensures.names.rise

pub sinks_by_variable-requires-clause-has : goal.sinks_by_variable-requires-clause-has
sinks_by_variable-requires-clause-has c =
    subst (λ l. All (λ s. Contains c.in_ok-names.names s.var.0) l) (sym c.as_slice.ensures)
    (sinks_named c.args.program.now c.args.graph.now c.in_ok-names.names c.requires c.in_ok-names.ensures.names)

pub returns-clause-knows : goal.returns-clause-knows
returns-clause-knows c =
    let known : KnowsIn c.in_ok-names.names c.args.graph.now.sinks c.in_ok-sink_of.sink_of.items =
    subst (λ l. KnowsIn c.in_ok-names.names l c.in_ok-sink_of.sink_of.items) c.as_slice.ensures c.in_ok-sink_of.ensures.some in
    knows_sinks c.args.program.now c.args.graph.now c.in_ok-names.names c.in_ok-sink_of.sink_of.items c.requires known
