use Rattle.std.proofs.Common.{drop, ◌+◌, if◌then◌else◌}
use Rattle.bl_format.specs.Image.{mark}
use Rattle.bl_leb.specs.Grammar.{byte}
use Rattle.bl_image.proofs.ReaderLemmas.{fails, none_via}
use Rattle.bl_image.proofs.value.MarkFind.find.Goals as goal

pub returns-in_err-code : goal.returns-in_err-code
returns-in_err-code c =
    fails byte mark c.args.bytes.now c.args.at c.args.at c.from_residual.result _ c.from_residual.ensures.1
    (none_via byte mark (drop c.args.at c.args.bytes.now) (λ y t h. (y.depth + (if y.protect then 8 else 0), h.1))) c.in_err-code.ensures
