use Rattle.std.proofs.Common.{drop, arith}
use Rattle.bl_leb.specs.Grammar.{byte}
use Rattle.bl_format.specs.Grammar.{u64}
use Rattle.bl_image.proofs.ReaderLemmas.{fails}
use Rattle.bl_image.proofs.Numbers.{number_of_byte, number_of_none}
use Rattle.bl_image.proofs.read.read_u64.Goals as goal

pub returns-in_err-byte : goal.returns-in_err-byte
returns-in_err-byte c =
    fails byte u64 c.args.bytes.now c.args.at c.args.at c.from_residual.result _ c.from_residual.ensures.1 (number_of_none (drop c.args.at c.args.bytes.now)) c.in_err-byte.ensures

pub returns-then-byte-lt128 : goal.returns-then-byte-lt128
returns-then-byte-lt128 c =
    (c.in_ok-byte.ensures.0, rw c.from.ensures (number_of_byte (drop c.args.at c.args.bytes.now) (drop c.in_ok-byte.place c.args.bytes.now) c.in_ok-byte.byte (omega arith) c.in_ok-byte.ensures.1))
