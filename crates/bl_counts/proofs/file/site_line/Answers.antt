use Rattle.std.proofs.Common.{[], ◌∷◌, ◌∙◌, ap, codes}
use Rattle.std.specs.Fmt.{decimal}
use Rattle.bl_counts.proofs.CountTexts.{line_pieces}
use Rattle.bl_counts.proofs.file.site_line.Goals as goal

pub returns : goal.returns
returns c =
    ap (λ v. v.items) c.into_bytes.ensures.value ∙ c.in_ok-text.ensures.ok
    ∙ line_pieces (codes "site ") (decimal c.args.at) (codes " ") (decimal c.args.count) (10 ∷ [])
