use Rattle.std.proofs.Common.{◌∙◌, ap}
use Rattle.std.specs.Prelude.{codes}
use Rattle.std.specs.Fmt.{decimal}
use Rattle.bl_trace.proofs.TextPieces.{two_numbers}
use Rattle.bl_trace.proofs.observation.division.Goals as goal

pub returns : goal.returns
returns c = ap (λ v. v.items) c.into_bytes.ensures.value ∙ c.in_ok-text.ensures.ok ∙ two_numbers (codes "divide ") (decimal c.args.a) (codes " ") (decimal c.args.b)
