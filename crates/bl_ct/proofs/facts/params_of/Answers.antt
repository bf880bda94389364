use Rattle.std.proofs.Common.{◌∙◌, ap, length, arith}
use Rattle.bl_program.specs.declared.definitions.FunctionDef.{FunctionDef}
use Rattle.bl_ct.proofs.DeclaredLists.{function_is, params_small, params_are}
use Rattle.bl_ct.proofs.facts.params_of.Goals as goal

pub overflow_cast-result : goal.overflow_cast-result
overflow_cast-result c =
    let exists = c.requires.exists in
    let all = ap (length {A = FunctionDef}) c.as_slice.ensures in
    let item = function_is c.args.parts.now c.as_slice.result.now c.as_slice.ensures c.args.function c.index-as_slice-function.result (omega arith) in
    let small = params_small c.args.parts.now c.requires.rules c.args.function _ item in
    let is = c.len.ensures in
    omega arith

pub returns : goal.returns
returns c =
    let exists = c.requires.exists in
    let all = ap (length {A = FunctionDef}) c.as_slice.ensures in
    let item = function_is c.args.parts.now c.as_slice.result.now c.as_slice.ensures c.args.function c.index-as_slice-function.result (omega arith) in
    c.len.ensures ∙ params_are c.args.parts.now c.requires.rules c.args.function _ item
