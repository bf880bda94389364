use Rattle.std.proofs.Common.{◌≡◌, sym, ◌∙◌, subst}
use Rattle.std.specs.Prelude.{IsSomeAnd}
use Rattle.bl_iface.specs.JoinedProgram.{exported}
use Rattle.bl_iface.specs.InterfaceFunctions.{Fits, IsMatched}
use Rattle.bl_iface.proofs.ListTests.{all_done, all_step, first_without}
use Rattle.bl_iface.proofs.FunctionLookup.{found_exists, unmatched_one}
use Rattle.bl_iface.proofs.matching.unmatched.Goals as goal
use Rattle.bl_iface.proofs.matching.unmatched.Goals.{After-function_named-found}

named : (c : After-function_named-found) → c.function_named-found.result ≡ exported c.args.program.now.exports c.one-item.result.name
named c = rw (c.as_slice-in-loop-index.ensures, c.as_slice.ensures, c.parts-parts.ensures.same, c.program.ensures.same) at c.function_named-found.ensures

pub fitting-requires : goal.fitting-requires
fitting-requires c = rw (c.parts-parts.ensures.same, c.program.ensures.same) (found_exists c.args.program.now c.one-item.result.name c.function_named-found.result c.program.ensures.rules (named c))

pub returns-in_default : goal.returns-in_default
returns-in_default c =
    first_without (IsMatched c.args.program.now) c.args.iface.now.functions c.loop-index.index c.one-item.result (rw c.as_slice-one-items.ensures at c.loop-index-test.true) (rw c.as_slice-one-items.ensures at c.one-item.is) c.loop-index.invariant
    (unmatched_one c.args.program.now c.one-item.result c.function_named-found.result (named (goal.at.returns-in_default c).After-function_named-found) (rw (c.parts-parts.ensures.same, c.program.ensures.same) at c.in_default.ensures))

pub loop-index-preserved : goal.loop-index-preserved
loop-index-preserved c =
    all_step (IsMatched c.args.program.now) c.args.iface.now.functions c.loop-index.index c.one-item.result (rw c.as_slice-one-items.ensures at c.loop-index-test.true) (rw c.as_slice-one-items.ensures at c.one-item.is) c.loop-index.invariant
    (subst (λ o. IsSomeAnd o (Fits c.args.program.now c.one-item.result)) (sym (sym (named (goal.at.loop-index-preserved c).After-function_named-found) ∙ c.in-Some.ensures.0))
    (rw (c.parts-parts.ensures.same, c.program.ensures.same) at c.in-Some.ensures.1))

pub returns : goal.returns
returns c = all_done (IsMatched c.args.program.now) c.args.iface.now.functions c.loop-index.index (rw c.as_slice-one-items.ensures at c.loop-index-test.false) c.loop-index.invariant
