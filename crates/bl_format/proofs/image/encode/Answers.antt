use Rattle.std.proofs.Common.{◌-◌, List, length, take, drop, length-drop, sym, ap, ◌∙◌, subst, arith}
use Rattle.std.proofs.lemmas.List.{take_all}
use Rattle.std.specs.List.{All}
use Rattle.bl_program.specs.Programs.{IsProgram}
use Rattle.bl_program.specs.declared.command.Command.{Command}
use Rattle.bl_program.specs.declared.definitions.ProgramParts.{ProgramParts as Program}
use Rattle.bl_format.specs.WriterAnswers.{DefinitionsFit, AdditionsFit, CommandFits}
use Rattle.bl_format.proofs.SpellableParts.{definitions_fit, additions_fit, commands_fit}
use Rattle.bl_format.proofs.image.encode.Goals as goal

pub write_definitions-requires : goal.write_definitions-requires
write_definitions-requires c = subst DefinitionsFit (sym (c.parts-parts.ensures.same ∙ c.program.ensures.same)) (definitions_fit c.args.program.now c.program.ensures.rules)

pub write_additions-requires : goal.write_additions-requires
write_additions-requires c =
    subst (λ (program : Program). AdditionsFit program.demands program.weights) (sym (c.parts-parts.ensures.same ∙ c.program.ensures.same)) (additions_fit c.args.program.now c.program.ensures.rules)

pub write_each-requires : goal.write_each-requires
write_each-requires c =
    let program = c.args.program.now in
    let xs = program.commands in
    let is = c.as_slice-3.ensures ∙ ap (λ (p : Program). p.commands) (c.parts-parts.ensures.same ∙ c.program.ensures.same) in
    let facts = subst IsProgram (c.parts-parts.ensures.same ∙ c.program.ensures.same) (subst IsProgram (sym c.parts-parts.ensures.same) c.parts-parts.ensures.facts) in
    let all = take_all (length xs - 7) (drop 7 xs) (omega (arith, length-drop 7 xs)) in
    subst (λ (ys : List Command). All CommandFits (take (length ys - 7) (drop 7 ys))) (sym is)
    (subst (All CommandFits) (sym all) (commands_fit program facts c.program.ensures.rules))
