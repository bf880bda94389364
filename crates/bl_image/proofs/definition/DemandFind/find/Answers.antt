use Rattle.std.proofs.Common.{drop, sym, ◌∙◌}
use Rattle.bl_program.specs.declared.definitions.Demand.TheVariants.{Global}
use Rattle.bl_leb.specs.Grammar.{byte}
use Rattle.bl_format.specs.Image.{demand, demand_code, demand_fields}
use Rattle.bl_image.proofs.ReaderLemmas.{fails, none_head, none_after, none_case, begins_coded}
use Rattle.bl_image.proofs.CodeCases.{to_result, is_result, is_global}
use Rattle.bl_image.proofs.definition.DemandFind.find.Goals as goal

pub returns-in_err-code : goal.returns-in_err-code
returns-in_err-code c =
    fails byte demand c.args.bytes.now c.args.at c.args.at c.from_residual.result _ c.from_residual.ensures.1
    (none_head byte demand_code demand_fields (drop c.args.at c.args.bytes.now)) c.in_err-code.ensures

pub returns-in_err-function-in-0 : goal.returns-in_err-function-in-0
returns-in_err-function-in-0 c =
    fails (λ p. demand_fields (to_result p)) demand c.args.bytes.now c.in_ok-code.place c.args.at c.from_residual-in_err-function-in-0.result _ c.from_residual-in_err-function-in-0.ensures.1
    (λ none. none_after byte demand_code demand_fields (drop c.args.at c.args.bytes.now) (drop c.in_ok-code.place c.args.bytes.now) c.in_ok-code.code c.in_ok-code.ensures.1
    (none_case demand_code demand_fields to_result c.in_ok-code.code (drop c.in_ok-code.place c.args.bytes.now) (λ y e. is_result y (e ∙ c.in-0.is)) none)) c.in_err-function-in-0.ensures

pub returns-in_ok-function-in-0 : goal.returns-in_ok-function-in-0
returns-in_ok-function-in-0 c = (
  c.in_ok-function-in-0.ensures.0,
  begins_coded demand_code demand_fields to_result c.in_ok-code.code (drop c.args.at c.args.bytes.now) (drop c.in_ok-code.place c.args.bytes.now) (drop c.in_ok-function-in-0.end c.args.bytes.now) (c.in_ok-function-in-0.function, c.in_ok-function-in-0.index) (sym c.in-0.is) (λ y e. is_result y (e ∙ c.in-0.is)) c.in_ok-code.ensures.1 c.in_ok-function-in-0.ensures.1,
)

pub returns-in_ok-global-in-1 : goal.returns-in_ok-global-in-1
returns-in_ok-global-in-1 c = (
  c.in_ok-global-in-1.ensures.0,
  begins_coded demand_code demand_fields Global c.in_ok-code.code (drop c.args.at c.args.bytes.now) (drop c.in_ok-code.place c.args.bytes.now) (drop c.in_ok-global-in-1.end c.args.bytes.now) c.in_ok-global-in-1.global (sym c.in-1.is) (λ y e. is_global y (e ∙ c.in-1.is)) c.in_ok-code.ensures.1 c.in_ok-global-in-1.ensures.1,
)
