use Rattle.std.proofs.Common.{drop}
use Rattle.bl_format.specs.Image.{label, label_code}
use Rattle.bl_leb.specs.Grammar.{byte}
use Rattle.bl_image.proofs.ReaderLemmas.{fails, none_via}
use Rattle.bl_image.proofs.value.LabelFind.find.Goals as goal

pub returns-in_err-code : goal.returns-in_err-code
returns-in_err-code c =
    fails byte label c.args.bytes.now c.args.at c.args.at c.from_residual.result _ c.from_residual.ensures.1
    (none_via byte label (drop c.args.at c.args.bytes.now) (λ y t h. (label_code y, h))) c.in_err-code.ensures
