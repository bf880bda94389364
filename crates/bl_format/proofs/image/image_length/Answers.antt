use Rattle.std.proofs.Common.{◌-◌, List, length, take, drop, length-drop, sym, ap, ◌∙◌, subst, arith}
use Rattle.std.proofs.lemmas.List.{take_all}
use Rattle.std.specs.List.{All}
use Rattle.bl_program.specs.Programs.{IsProgram}
use Rattle.bl_program.specs.declared.command.Command.{Command}
use Rattle.bl_program.specs.declared.definitions.ProgramParts.{ProgramParts as Program}
use Rattle.bl_format.specs.Grammar.{each}
use Rattle.bl_format.specs.Image.{additions, command, definitions, version}
use Rattle.bl_format.specs.WriterAnswers.{DefinitionsFit, AdditionsFit, CommandFits, HasLength}
use Rattle.bl_format.proofs.LengthLemmas.{four}
use Rattle.bl_format.proofs.LengthLemmas.{header_long}
use Rattle.bl_format.proofs.SpellableParts.{definitions_fit, additions_fit, commands_fit}
use Rattle.bl_format.proofs.image.image_length.Goals as goal

pub length_of_definitions-definitions-requires : goal.length_of_definitions-definitions-requires
length_of_definitions-definitions-requires c = subst DefinitionsFit (sym (c.parts-parts.ensures.same ∙ c.program.ensures.same)) (definitions_fit c.args.program.now c.program.ensures.rules)

pub length_of_additions-additions-requires : goal.length_of_additions-additions-requires
length_of_additions-additions-requires c =
    subst (λ (program : Program). AdditionsFit program.demands program.weights) (sym (c.parts-parts.ensures.same ∙ c.program.ensures.same)) (additions_fit c.args.program.now c.program.ensures.rules)

pub length_of_each-commands-requires : goal.length_of_each-commands-requires
length_of_each-commands-requires c =
    let program = c.args.program.now in
    let xs = program.commands in
    let is = c.as_slice.ensures ∙ ap (λ (p : Program). p.commands) (c.parts-parts.ensures.same ∙ c.program.ensures.same) in
    let facts = subst IsProgram (c.parts-parts.ensures.same ∙ c.program.ensures.same) (subst IsProgram (sym c.parts-parts.ensures.same) c.parts-parts.ensures.facts) in
    let all = take_all (length xs - 7) (drop 7 xs) (omega (arith, length-drop 7 xs)) in
    subst (λ (ys : List Command). All CommandFits (take (length ys - 7) (drop 7 ys))) (sym is)
    (subst (All CommandFits) (sym all) (commands_fit program facts c.program.ensures.rules))

pub returns : goal.returns
returns c =
    let program = c.args.program.now in
    let xs = program.commands in
    let same = c.parts-parts.ensures.same ∙ c.program.ensures.same in
    let facts = subst IsProgram same (subst IsProgram (sym c.parts-parts.ensures.same) c.parts-parts.ensures.facts) in
    let defined = subst (λ (p : Program). HasLength (definitions p) c.length_of_definitions-definitions.result) same c.length_of_definitions-definitions.ensures in
    let added = subst (λ (p : Program). HasLength (additions p.demands p.weights) c.length_of_additions-additions.result) same c.length_of_additions-additions.ensures in
    let is = c.as_slice.ensures ∙ ap (λ (p : Program). p.commands) same in
    let all = take_all (length xs - 7) (drop 7 xs) (omega (arith, length-drop 7 xs)) in
    let commands = subst (λ (ys : List Command). HasLength (each command ys) c.length_of_each-commands.result) all
    (subst (λ (ys : List Command). HasLength (each command (take (length ys - 7) (drop 7 ys))) c.length_of_each-commands.result) is c.length_of_each-commands.ensures) in
    let whole = four (header_long (version program.demands program.weights)) defined added commands
    (omega (arith, c.saturating_add.ensures, c.saturating_add-2.ensures, c.saturating_add-3.ensures)) in
    record { bytes = whole.bytes; spelled = record { is_program = facts; spelled = whole.spelled }; counted = whole.counted }
