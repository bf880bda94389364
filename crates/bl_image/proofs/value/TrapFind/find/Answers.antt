use Rattle.std.proofs.Common.{drop}
use Rattle.bl_base.specs.Trap.{trap_number as trap_code}
use Rattle.bl_format.specs.Image.{trap_kind}
use Rattle.bl_leb.specs.Grammar.{byte}
use Rattle.bl_image.proofs.ReaderLemmas.{fails, none_via}
use Rattle.bl_image.proofs.value.TrapFind.find.Goals as goal

pub returns-in_err-code : goal.returns-in_err-code
returns-in_err-code c =
    fails byte trap_kind c.args.bytes.now c.args.at c.args.at c.from_residual.result _ c.from_residual.ensures.1
    (none_via byte trap_kind (drop c.args.at c.args.bytes.now) (λ y t h. (trap_code y, h))) c.in_err-code.ensures
