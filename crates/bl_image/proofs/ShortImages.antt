-- The image of a small program is no longer than the limit.
use Rattle.std.proofs.Common.{◌+◌, ◌≤◌, ℕ, List, length, subst}
use Rattle.bl_base.specs.Quantity.{limit_of}
use Rattle.bl_base.specs.declared.quantity.Quantity.TheVariants as quantity
use Rattle.bl_program.specs.Programs.{IsProgram}
use Rattle.bl_program.specs.Rules.{IsWellFormed}
use Rattle.bl_program.specs.Widths.{HasWidths}
use Rattle.bl_program.specs.declared.definitions.ProgramParts.{ProgramParts as Program}
use Rattle.bl_format.specs.Image.{Image}
use Rattle.bl_format.proofs.ImageExistence.{AreSmall, some_short_image}
use Rattle.bl_image.proofs.Prefixes.{one_image}

pub short_image : (program : Program) → IsProgram program → IsWellFormed program → HasWidths program → (bytes : List ℕ) → AreSmall 44 program → length program.memories ≤ 1
    → length program.globals + length program.functions + length program.exports + length program.demands + length program.weights ≤ 300000
    → Image program bytes → length bytes ≤ limit_of quantity.Image
short_image program facts well widths bytes small memories few is =
    let short = some_short_image program facts well widths small memories few in
    subst (λ (t : List ℕ). length t ≤ limit_of quantity.Image) (one_image program short.0 bytes short.1 is) short.2
