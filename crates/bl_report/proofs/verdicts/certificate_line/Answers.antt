use Rattle.std.proofs.Common.{[], ◌∷◌, ◌∙◌, ap, codes, sym}
use Rattle.std.specs.Fmt.{decimal}
use Rattle.bl_report.specs.Verdicts.{certificate_line}
use Rattle.bl_outcome.proofs.MemoryTexts.{two_numbers}
use Rattle.bl_report.proofs.verdicts.certificate_line.Goals as goal

pub returns-in_ok-format-in-No : goal.returns-in_ok-format-in-No
returns-in_ok-format-in-No c =
    ap (λ v. v.items) c.into_bytes.ensures.value ∙ c.in_ok-format-in-No.ensures.ok
    ∙ two_numbers (codes "certificate no ") (decimal c.in-No.rule) (codes " ") (decimal c.in-No.index) (10 ∷ []) ∙ ap certificate_line (sym c.in-No.is)
