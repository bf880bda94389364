use Rattle.std.proofs.Common.{◌≡◌, ◌∙◌, ap}
use Rattle.bl_build.specs.EntryStages.{function_named}
use Rattle.bl_build.proofs.ExportedFunctions.{found_so}
use Rattle.bl_build.proofs.entry.find_function.Goals as goal

pub returns : goal.returns
returns c =
    let parts : c.parts.result.now ≡ c.args.program.now = c.parts.ensures.same ∙ c.program.ensures.same in
    let exports = c.as_slice.ensures ∙ ap (λ p. p.exports) parts in
    found_so c.args.export.now c.args.program.now c.program.ensures.rules c.number_named.result (c.number_named.ensures ∙ ap (function_named c.args.export.now) exports)
