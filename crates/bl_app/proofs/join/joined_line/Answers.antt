use Rattle.std.proofs.Common.{◌≡◌, ◌∙◌, ◌++◌, ap, length, codes, [], ◌∷◌}
use Rattle.std.specs.Fmt.{decimal}
use Rattle.bl_outcome.proofs.MemoryTexts.{two_numbers}
use Rattle.bl_program.specs.declared.definitions.ProgramParts.{ProgramParts as Program}
use Rattle.bl_app.proofs.join.joined_line.Goals as goal

pub returns : goal.returns
returns c =
    let program : c.parts-parts.result.now ≡ c.args.program.now = c.parts-parts.ensures.same ∙ c.program.ensures.same in
    let functions : c.len-functions.result ≡ length c.args.program.now.functions = c.len-functions.ensures ∙ ap (λ (p : Program). length p.functions) program in
    let commands : c.len-commands.result ≡ length c.args.program.now.commands = c.len-commands.ensures ∙ ap (λ (p : Program). length p.commands) program in
    c.in_ok-text.ensures.ok
    ∙ two_numbers (codes "joined functions ") (decimal c.len-functions.result) (codes " commands ") (decimal c.len-commands.result) (10 ∷ [])
    ∙ (λ i. codes "joined functions " ++ decimal (functions i) ++ codes " commands " ++ decimal (commands i) ++ 10 ∷ [])
