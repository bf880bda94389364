use Rattle.std.proofs.Common.{◌≡◌, ◌∙◌, ap, length, map}
use Rattle.bl_program.specs.declared.definitions.ProgramParts.{ProgramParts}
use Rattle.bl_graph.specs.Ranges.{commands}
use Rattle.bl_cut.specs.Choices.{path_of}
use Rattle.bl_cut.proofs.FlowAnswers.{all_end_at_vars, answer_least, answer_weight, answer_certificate}
use Rattle.bl_cut.proofs.choice.choice_of.Goals as goal
use Rattle.bl_cut.proofs.choice.choice_of.Goals.{After-as_slice, After-of}

count_is : (c : After-as_slice) → c.len-commands.result ≡ commands c.args.program.now
count_is c = c.len-commands.ensures ∙ ap (λ (p : ProgramParts). commands p) (c.parts.ensures.same ∙ c.program.ensures.same)

backs : (c : After-of) → c.of.result ≡ map (path_of c.len-commands.result c.args.sink_of.now) c.args.flow.now.paths
backs c = c.of.ensures ∙ c.in_ok-paths.ensures ∙ ap (map (path_of c.len-commands.result c.args.sink_of.now)) c.as_slice.ensures

pub read_back-requires : goal.read_back-requires
read_back-requires c =
    rw c.as_slice.ensures (all_end_at_vars c.args.program.now c.args.names.now c.ranges-2.ensures c.args.flow.now c.requires.flow c.len-commands.result (length c.args.sink_of.now) (count_is c) c.requires.places)

pub returns-clause-least : goal.returns-clause-least
returns-clause-least c =
    answer_least c.args.program.now c.args.names.now c.ranges-2.ensures c.args.flow.now c.requires.flow c.len-commands.result (count_is (goal.at.returns-clause-least c).After-as_slice)
    c.in_ok-protects.protects c.in_ok-protects.ensures

pub returns-clause-weight : goal.returns-clause-weight
returns-clause-weight c =
    answer_weight c.args.program.now c.args.names.now c.ranges-2.ensures c.args.flow.now c.requires.flow c.len-commands.result (count_is (goal.at.returns-clause-weight c).After-as_slice)
    c.in_ok-protects.protects c.in_ok-protects.ensures

pub returns-clause-certificate : goal.returns-clause-certificate
returns-clause-certificate c =
    answer_certificate c.args.program.now c.args.names.now c.ranges-2.ensures c.args.flow.now c.requires.flow c.len-commands.result (count_is (goal.at.returns-clause-certificate c).After-as_slice)
    c.in_ok-protects.protects c.in_ok-protects.ensures c.args.sink_of.now c.requires.knows c.of.result (backs (goal.at.returns-clause-certificate c).After-of)
