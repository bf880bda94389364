use Rattle.std.proofs.Common.{drop}
use Rattle.bl_program.specs.Programs.{IsCommand}
use Rattle.bl_leb.specs.Grammar.{byte, given}
use Rattle.bl_format.specs.Image.{command, command_code, fields}
use Rattle.bl_image.proofs.ReaderLemmas.{fails, none_head, finds_after}
use Rattle.bl_image.proofs.command.CommandFind.find.Goals as goal

pub returns-in_err-code : goal.returns-in_err-code
returns-in_err-code c =
    fails byte command c.args.bytes.now c.args.at c.args.at c.from_residual.result _ c.from_residual.ensures.1
    (none_head byte command_code (λ y. given (IsCommand y) (fields y)) (drop c.args.at c.args.bytes.now)) c.in_err-code.ensures

pub returns : goal.returns
returns c = finds_after byte command_code (λ y. given (IsCommand y) (fields y)) c.args.bytes.now c.args.at c.in_ok-code.place c.in_ok-code.code _ c.in_ok-code.ensures.1 c.read_fields.ensures
