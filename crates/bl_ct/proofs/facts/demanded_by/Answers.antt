use Rattle.std.proofs.Common.{◌≡◌, ◌+◌, ◌∙◌, sym, ap, subst, arith}
use Rattle.std.specs.Prelude.{slice_index}
use Rattle.bl_program.specs.Layout.{first_of, params_of}
use Rattle.bl_program.specs.Rules.{IsDemand}
use Rattle.bl_graph.specs.Secrets.{demanded_by}
use Rattle.bl_ct.proofs.DeclaredLists.{demand_fits}
use Rattle.bl_ct.proofs.facts.demanded_by.Goals as goal

pub bounds-firsts-function : goal.bounds-firsts-function
bounds-firsts-function c =
    let named = subst (IsDemand c.args.parts.now) c.in-Result.is c.requires.named in
    let lt = named.0 in
    let count = c.requires.firsts.len in
    omega arith

pub overflow_add-result : goal.overflow_add-result
overflow_add-result c =
    let named = subst (IsDemand c.args.parts.now) c.in-Result.is c.requires.named in
    let first = c.requires.firsts.each c.in-Result.function (omega (arith, named.0)) in
    let fits = demand_fits c.args.parts.now c.requires.rules c.in-Result.function c.in-Result.index named.0 named.1 in
    let params = c.params_of.ensures in
    omega arith

pub overflow_add-result-in-Result : goal.overflow_add-result-in-Result
overflow_add-result-in-Result c =
    let named = subst (IsDemand c.args.parts.now) c.in-Result.is c.requires.named in
    let first = c.requires.firsts.each c.in-Result.function (omega (arith, named.0)) in
    let fits = demand_fits c.args.parts.now c.requires.rules c.in-Result.function c.in-Result.index named.0 named.1 in
    let params = c.params_of.ensures in
    omega arith

pub returns-in-Result : goal.returns-in-Result
returns-in-Result c =
    let named = subst (IsDemand c.args.parts.now) c.in-Result.is c.requires.named in
    let first = c.requires.firsts.each c.in-Result.function (omega (arith, named.0)) in
    let params = c.params_of.ensures in
    let sum : slice_index c.args.firsts.now c.in-Result.function + c.params_of.result + c.in-Result.index
    ≡ first_of c.args.parts.now c.in-Result.function + params_of c.args.parts.now c.in-Result.function + c.in-Result.index = omega arith in
    sum ∙ ap (demanded_by c.args.parts.now) (sym c.in-Result.is)

pub params_of-requires-clause-exists : goal.params_of-requires-clause-exists
params_of-requires-clause-exists c = (subst (IsDemand c.args.parts.now) c.in-Result.is c.requires.named).0
