-- The first variables of functions, and what a function's commands write.
use Rattle.std.proofs.Common.{◌≡◌, ℕ, ◌+◌, ◌^◌, ◌<◌, [], ◌∷◌, length, Some, ap, subst, ◌∙◌, arith}
use Rattle.std.specs.Prelude.{slice_index}
use Rattle.bl_program.specs.Layout.{first_of, params_of, results_of, param, result, running as owner, command_at, Holds}
use Rattle.bl_program.specs.Rules.{Rule6}
use Rattle.bl_program.specs.declared.command.Command.{Command}
use Rattle.bl_program.specs.declared.command.Command.TheVariants.{Arg, Out}
use Rattle.bl_program.specs.declared.command.Mark.{Mark}
use Rattle.bl_program.specs.declared.command.Operand.{Operand}
use Rattle.bl_program.proofs.Layouts.{running_is}
use Rattle.bl_graph.specs.FirstVariables.{IsRunning}
use Rattle.bl_graph.specs.declared.writes.Running.{Running}
use Rattle.bl_graph.proofs.RangeLemmas.{param_small, result_small}

module _ (here : Running) (is : IsRunning here) where
  pub first_is : (callee : ℕ) → callee < length here.parts.now.functions → slice_index here.firsts.now callee ≡ first_of here.parts.now callee
  first_is callee lt = is.firsts.each callee (omega arith)

  module _ (position : ℕ) (command : Command) (holds : Holds here.parts.now here.number position) (at : command_at here.parts.now position ≡ Some command) where
    arg_rule : (mark : Mark) (callee index : ℕ) (value : Operand) → command ≡ Arg mark callee index value → (callee < length here.parts.now.functions) × (index < params_of here.parts.now callee)
    arg_rule mark callee index value e =
        let rule = subst (λ c. Rule6 here.parts.now here.number c) e (is.rules.rule6 position here.number command holds at) in (rule.1, rule.2)

    pub arg_within : (mark : Mark) (callee index : ℕ) (value : Operand) → command ≡ Arg mark callee index value → callee < length here.firsts.now
    arg_within mark callee index value e = let rule = arg_rule mark callee index value e in let low = rule.0 in let all = is.firsts.len in omega arith

    pub arg_small : (mark : Mark) (callee index : ℕ) (value : Operand) → command ≡ Arg mark callee index value → slice_index here.firsts.now callee + index < 2 ^ 32
    arg_small mark callee index value e =
        let rule = arg_rule mark callee index value e in
        let small = param_small here.parts.now is.facts is.rules callee index rule.0 rule.1 in
        let first = first_is callee rule.0 in
        let most = is.rules.rule2.variables in
        omega arith

    pub arg_is : (mark : Mark) (callee index : ℕ) (value : Operand) → command ≡ Arg mark callee index value → slice_index here.firsts.now callee + index ≡ param here.parts.now callee index
    arg_is mark callee index value e = let rule = arg_rule mark callee index value e in let first = first_is callee rule.0 in omega arith

    out_rule : (mark : Mark) (index : ℕ) (value : Operand) → command ≡ Out mark index value → index < results_of here.parts.now here.number
    out_rule mark index value e = let rule = subst (λ c. Rule6 here.parts.now here.number c) e (is.rules.rule6 position here.number command holds at) in rule.1

    pub out_small : (mark : Mark) (index : ℕ) (value : Operand) → command ≡ Out mark index value → here.results + index < 2 ^ 32
    out_small mark index value e =
        let small = result_small here.parts.now is.facts is.rules here.number index (out_rule mark index value e) in
        let from = is.results_from in
        let most = is.rules.rule2.variables in
        omega arith

    pub out_is : (mark : Mark) (index : ℕ) (value : Operand) → command ≡ Out mark index value → here.results + index ≡ result here.parts.now (owner here.parts.now position) index
    out_is mark index value e =
        let from = is.results_from in
        let own = ap (λ f. result here.parts.now f index) (running_is here.parts.now here.number position holds) in
        let none = ap (λ f. result here.parts.now f 0) (running_is here.parts.now here.number position holds) in
        omega arith
