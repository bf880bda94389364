use Rattle.std.proofs.Common.{◌≡◌, ℕ, List, ◌+◌, suc, length, refl, sym, ap, subst, ◌∙◌, arith}
use Rattle.std.specs.Prelude.{slice_index}
use Rattle.bl_base.proofs.Lists.{item_at}
use Rattle.bl_program.specs.Layout.{first_of, entry_of, AreValues}
use Rattle.bl_program.specs.Programs.{IsProgram}
use Rattle.bl_program.specs.Rules.{IsWellFormed}
use Rattle.bl_program.specs.Sites.{Writes}
use Rattle.bl_program.specs.declared.definitions.FunctionDef.{FunctionDef}
use Rattle.bl_program.specs.declared.definitions.ProgramParts.{ProgramParts}
use Rattle.bl_graph.specs.UseLists.{AreBelow}
use Rattle.bl_graph.proofs.GraphPasses.{writes_begin, writes_end, params_fit, results_fit, end_fits, end_is, results_are}
use Rattle.bl_graph.proofs.writes.writes_of.Goals as goal

pub loop-number-init : goal.loop-number-init
loop-number-init c = record {
  below = writes_begin c.args.program.now (subst IsProgram c.program.ensures.same c.parts-parts.ensures.facts) c.new-writes.result c.new-writes.ensures;
  entry = refl;
}

pub bounds-firsts-number : goal.bounds-firsts-number
bounds-firsts-number c =
    let len = c.in_ok-table.ensures.len in
    let firsts = ap (length {A = ℕ}) c.as_slice-firsts.ensures in
    let lt = c.loop-number-test.true in
    let all = ap (length {A = FunctionDef}) c.as_slice-function-items.ensures in
    omega arith

pub overflow_cast-running : goal.overflow_cast-running
overflow_cast-running c =
    let facts = subst IsProgram c.program.ensures.same c.parts-parts.ensures.facts in
    let item = item_at c.args.program.now.functions _ _ _ (c.as_slice-function-items.ensures ∙ ap (λ (p : ProgramParts). p.functions) (c.parts-parts.ensures.same ∙ c.program.ensures.same)) c.loop-number-test.true c.function-item.is in
    let fit = params_fit c.args.program.now facts c.program.ensures.rules c.loop-number.number c.function-item.result item in
    let len = c.len.ensures in
    omega arith

pub overflow_add-running : goal.overflow_add-running
overflow_add-running c =
    let facts = subst IsProgram c.program.ensures.same c.parts-parts.ensures.facts in
    let same = c.parts-parts.ensures.same ∙ c.program.ensures.same in
    let item = item_at c.args.program.now.functions _ _ _ (c.as_slice-function-items.ensures ∙ ap (λ (p : ProgramParts). p.functions) same) c.loop-number-test.true c.function-item.is in
    let lt = c.loop-number-test.true in
    let all = ap (length {A = FunctionDef}) c.as_slice-function-items.ensures in
    let first : slice_index c.as_slice-firsts.result.now c.loop-number.number ≡ first_of c.args.program.now c.loop-number.number =
    ap (λ (l : List ℕ). slice_index l c.loop-number.number) c.as_slice-firsts.ensures ∙ c.in_ok-table.ensures.each c.loop-number.number (omega arith)
    ∙ ap (λ (p : ProgramParts). first_of p c.loop-number.number) same in
    let fit = results_fit c.args.program.now facts c.program.ensures.rules c.loop-number.number c.function-item.result item _ first in
    let len = c.len.ensures in
    omega arith

pub overflow_add-end : goal.overflow_add-end
overflow_add-end c =
    let facts = subst IsProgram c.program.ensures.same c.parts-parts.ensures.facts in
    let item = item_at c.args.program.now.functions _ _ _ (c.as_slice-function-items.ensures ∙ ap (λ (p : ProgramParts). p.functions) (c.parts-parts.ensures.same ∙ c.program.ensures.same)) c.loop-number-test.true c.function-item.is in
    let fit = end_fits c.args.program.now facts c.program.ensures.rules c.loop-number.number c.function-item.result item c.loop-number.entry c.loop-number.invariant.entry in
    omega arith

pub push_writes-requires-clause-running : goal.push_writes-requires-clause-running
push_writes-requires-clause-running c =
    let same = c.parts-parts.ensures.same ∙ c.program.ensures.same in
    let facts = subst IsProgram (sym c.parts-parts.ensures.same) c.parts-parts.ensures.facts in
    let rules = subst IsWellFormed (sym same) c.program.ensures.rules in
    let item = item_at c.parts-parts.result.now.functions _ _ _ c.as_slice-function-items.ensures c.loop-number-test.true c.function-item.is in
    let lt = c.loop-number-test.true in
    let all = ap (length {A = FunctionDef}) c.as_slice-function-items.ensures in
    let first : slice_index c.as_slice-firsts.result.now c.loop-number.number ≡ first_of c.parts-parts.result.now c.loop-number.number =
    ap (λ (l : List ℕ). slice_index l c.loop-number.number) c.as_slice-firsts.ensures ∙ c.in_ok-table.ensures.each c.loop-number.number (omega arith) in
    record {
      facts = facts;
      rules = rules;
      exists = omega arith;
      firsts = subst (AreValues (first_of c.parts-parts.result.now) (length c.parts-parts.result.now.functions)) (sym c.as_slice-firsts.ensures) c.in_ok-table.ensures;
      results_from = ap (λ n. slice_index c.as_slice-firsts.result.now c.loop-number.number + n) c.len.ensures
          ∙ results_are c.parts-parts.result.now facts rules c.loop-number.number c.function-item.result item _ first;
    }

pub push_writes-requires-clause-end : goal.push_writes-requires-clause-end
push_writes-requires-clause-end c =
    let same = c.parts-parts.ensures.same ∙ c.program.ensures.same in
    let facts = subst IsProgram (sym c.parts-parts.ensures.same) c.parts-parts.ensures.facts in
    let rules = subst IsWellFormed (sym same) c.program.ensures.rules in
    let item = item_at c.parts-parts.result.now.functions _ _ _ c.as_slice-function-items.ensures c.loop-number-test.true c.function-item.is in
    end_is c.parts-parts.result.now facts rules c.loop-number.number c.function-item.result item c.loop-number.entry
    (c.loop-number.invariant.entry ∙ ap (λ (p : ProgramParts). entry_of p c.loop-number.number) (sym same))

pub loop-number-preserved : goal.loop-number-preserved
loop-number-preserved c =
    let same = c.parts-parts.ensures.same ∙ c.program.ensures.same in
    let facts = subst IsProgram c.program.ensures.same c.parts-parts.ensures.facts in
    let item = item_at c.args.program.now.functions _ _ _ (c.as_slice-function-items.ensures ∙ ap (λ (p : ProgramParts). p.functions) same) c.loop-number-test.true c.function-item.is in
    let one : c.loop-number.number + 1 ≡ suc c.loop-number.number = omega arith in
    record {
      below = subst (λ (p : ProgramParts). AreBelow (Writes p) (c.loop-number.entry + c.function-item.result.length) c.push_writes.new.writes) same c.in_ok-push_writes.ensures;
      entry = end_is c.args.program.now facts c.program.ensures.rules c.loop-number.number c.function-item.result item c.loop-number.entry c.loop-number.invariant.entry
          ∙ ap (entry_of c.args.program.now) (sym one);
    }

pub returns : goal.returns
returns c =
    let same = c.parts-parts.ensures.same ∙ c.program.ensures.same in
    let all = ap (length {A = FunctionDef}) (c.as_slice-function-items.ensures ∙ ap (λ (p : ProgramParts). p.functions) same) in
    let low = c.loop-number-test.false in
    let high = c.loop-number.auto.number-end in
    writes_end c.args.program.now (subst IsProgram c.program.ensures.same c.parts-parts.ensures.facts) c.loop-number.number c.loop-number.entry c.loop-number.writes
    (omega arith) (omega arith) c.loop-number.invariant.entry c.loop-number.invariant.below
