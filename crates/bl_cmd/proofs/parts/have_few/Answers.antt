use Rattle.std.proofs.Common.{arith}
use Rattle.std.proofs.lemmas.Bool.{false≢true}
use Rattle.bl_program.specs.declared.definitions.FunctionDef.{FunctionDef}
use Rattle.bl_program.proofs.Totals.{total_next, total_whole}
use Rattle.bl_cmd.proofs.parts.have_few.Goals as goal

pub returns-then-function-most : goal.returns-then-function-most
returns-then-function-most c =
    let whole = total_whole (λ (f : FunctionDef). f.vars) c.args.functions.now c.loop-function.function-index c.loop-function.total c.function-item.result c.loop-function-test.true c.function-item.is c.loop-function.invariant.is in
    (λ t. absurd (false≢true t), λ le. absurd (omega arith))

pub loop-function-preserved : goal.loop-function-preserved
loop-function-preserved c = record {
  few = omega arith;
  is = total_next (λ (f : FunctionDef). f.vars) c.args.functions.now c.loop-function.function-index c.loop-function.total c.function-item.result c.loop-function-test.true c.function-item.is c.loop-function.invariant.is;
}
