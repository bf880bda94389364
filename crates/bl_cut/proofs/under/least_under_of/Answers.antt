use Rattle.std.proofs.Common.{◌≡◌, ◌∙◌, ap}
use Rattle.bl_program.specs.declared.definitions.ProgramParts.{ProgramParts}
use Rattle.bl_graph.specs.Ranges.{commands}
use Rattle.bl_transient.specs.Verdicts.{asked_of}
use Rattle.bl_cut.specs.Network.{IsNetworkUnder}
use Rattle.bl_cut.proofs.FlowAnswers.{lists_apart, network_of, set_least, set_weighs}
use Rattle.bl_cut.proofs.PassingCuts.{in_range, bounded, total}
use Rattle.bl_cut.proofs.under.least_under_of.Goals as goal
use Rattle.bl_cut.proofs.under.least_under_of.Goals.{After-len-commands, In_ok-network}

net_is : (c : In_ok-network) → IsNetworkUnder (asked_of c.args.asked.now) c.args.program.now c.in_ok-names.names c.in_ok-network.network
net_is c =
    network_of c.args.program.now c.in_ok-names.names c.as_slice-transient.result.now c.as_slice-stable.result.now c.args.asked.now c.in_ok-network.network c.as_slice-transient.ensures c.as_slice-stable.ensures c.in_ok-network.ensures

count_is : (c : After-len-commands) → c.len-commands.result ≡ commands c.args.program.now
count_is c = c.len-commands.ensures ∙ ap (λ (p : ProgramParts). commands p) (c.parts.ensures.same ∙ c.program.ensures.same)

pub least_cut_of-requires-clause-in_range : goal.least_cut_of-requires-clause-in_range
least_cut_of-requires-clause-in_range c = in_range (asked_of c.args.asked.now) c.args.program.now c.in_ok-names.names c.ranges-2.ensures c.in_ok-network.network (net_is c)

pub least_cut_of-requires-clause-bounded : goal.least_cut_of-requires-clause-bounded
least_cut_of-requires-clause-bounded c =
    bounded (asked_of c.args.asked.now) c.args.program.now c.in_ok-names.names c.ranges-2.ensures c.in_ok-network.network (net_is c) (lists_apart c.args.program.now c.args.asked.now c.requires.apart c.requires.sinks)

pub least_cut_of-requires-clause-total : goal.least_cut_of-requires-clause-total
least_cut_of-requires-clause-total c = total (asked_of c.args.asked.now) c.args.program.now c.in_ok-names.names c.ranges-2.ensures c.in_ok-network.network (net_is c)

pub returns-clause-least : goal.returns-clause-least
returns-clause-least c =
    set_least (asked_of c.args.asked.now) c.args.program.now c.in_ok-names.names c.ranges-2.ensures c.in_ok-network.network (net_is (goal.at.returns-clause-least c).In_ok-network) c.in_ok-cut.cut c.in_ok-cut.ensures
    c.len-commands.result (count_is (goal.at.returns-clause-least c).After-len-commands) c.in_ok-protects.protects c.in_ok-protects.ensures

pub returns-clause-weight : goal.returns-clause-weight
returns-clause-weight c =
    set_weighs (asked_of c.args.asked.now) c.args.program.now c.in_ok-names.names c.ranges-2.ensures c.in_ok-network.network (net_is (goal.at.returns-clause-weight c).In_ok-network) c.in_ok-cut.cut c.in_ok-cut.ensures
    c.len-commands.result (count_is (goal.at.returns-clause-weight c).After-len-commands) c.in_ok-protects.protects c.in_ok-protects.ensures
