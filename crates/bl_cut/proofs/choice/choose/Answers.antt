use Rattle.std.proofs.lemmas.Bool.{false≢true}
use Rattle.bl_transient.specs.Transient.{nothing}
use Rattle.bl_cut.proofs.PassingCuts.{in_range, bounded, total}
use Rattle.bl_cut.proofs.choice.choose.Goals as goal

pub max_flow_of-requires-clause-in_range : goal.max_flow_of-requires-clause-in_range
max_flow_of-requires-clause-in_range c = in_range nothing c.args.program.now c.args.laid.names c.ranges-2.ensures c.args.laid.network c.requires.network

pub max_flow_of-requires-clause-bounded : goal.max_flow_of-requires-clause-bounded
max_flow_of-requires-clause-bounded c = bounded nothing c.args.program.now c.args.laid.names c.ranges-2.ensures c.args.laid.network c.requires.network (λ x transient. absurd (false≢true transient))

pub max_flow_of-requires-clause-total : goal.max_flow_of-requires-clause-total
max_flow_of-requires-clause-total c = total nothing c.args.program.now c.args.laid.names c.ranges-2.ensures c.args.laid.network c.requires.network

pub choice_of-requires-clause-flow : goal.choice_of-requires-clause-flow
choice_of-requires-clause-flow c =
    record { network = c.args.laid.network; is = c.requires.network; flow = c.in_ok-flow.ensures }
