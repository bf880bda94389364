use Rattle.std.proofs.Common.{◌≡◌, List, ap, ◌∙◌}
use Rattle.bl_program.specs.declared.definitions.ExportDef.{ExportDef}
use Rattle.bl_program.specs.declared.definitions.ProgramParts.{ProgramParts}
use Rattle.bl_iface.specs.JoinedProgram.{exported}
use Rattle.bl_iface.specs.InterfaceFunctions.{IsMatched}
use Rattle.bl_iface.proofs.ListTests.{all_done, first_without}
use Rattle.bl_iface.proofs.FunctionLookup.{found_exists, so_far_all, so_far_more, unmatched_one}
use Rattle.bl_iface.proofs.matching.targets.Goals as goal
use Rattle.bl_iface.proofs.matching.targets.Goals.{After-copied-found}

named : (c : After-copied-found) → c.copied-found.result ≡ exported c.args.program.now.exports c.one-item.result.name
named c =
    c.copied-found.ensures ∙ c.get.ensures.value ∙ c.in_ok-numbers.ensures c.as_slice-in-loop-index.result.now
    ∙ ap (λ (e : List ExportDef). exported e c.as_slice-in-loop-index.result.now) (c.as_slice.ensures ∙ ap (λ (p : ProgramParts). p.exports) (c.parts-parts.ensures.same ∙ c.program.ensures.same))
    ∙ ap (exported c.args.program.now.exports) c.as_slice-in-loop-index.ensures

pub fitting-requires : goal.fitting-requires
fitting-requires c = rw (c.parts-parts.ensures.same, c.program.ensures.same) (found_exists c.args.program.now c.one-item.result.name c.copied-found.result c.program.ensures.rules (named c))

pub returns-in_default-clause-refused : goal.returns-in_default-clause-refused
returns-in_default-clause-refused c =
    first_without (IsMatched c.args.program.now) c.args.iface.now.functions c.loop-index.index c.one-item.result (rw c.as_slice-one-items.ensures at c.loop-index-test.true) (rw c.as_slice-one-items.ensures at c.one-item.is) c.loop-index.invariant.matched
    (unmatched_one c.args.program.now c.one-item.result c.copied-found.result (named (goal.at.returns-in_default-clause-refused c).After-copied-found) (rw (c.parts-parts.ensures.same, c.program.ensures.same) at c.in_default.ensures))

pub loop-index-preserved : goal.loop-index-preserved
loop-index-preserved c =
    so_far_more c.args.program.now c.args.iface.now.functions c.loop-index.index c.loop-index.targets c.push.new.self c.one-item.result c.in-Some.target c.copied-found.result c.program.ensures.rules
    (rw c.as_slice-one-items.ensures at c.loop-index-test.true) (rw c.as_slice-one-items.ensures at c.one-item.is) (named (goal.at.loop-index-preserved c).After-copied-found) c.in-Some.ensures.0
    (rw (c.parts-parts.ensures.same, c.program.ensures.same) at c.in-Some.ensures.1) c.in_ok-push.ensures.ok c.loop-index.invariant

pub returns-clause-found : goal.returns-clause-found
returns-clause-found c = so_far_all c.args.program.now c.args.iface.now c.loop-index.index c.loop-index.targets (rw c.as_slice-one-items.ensures at c.loop-index-test.false) c.loop-index.invariant

pub returns-clause-matched : goal.returns-clause-matched
returns-clause-matched c = all_done (IsMatched c.args.program.now) c.args.iface.now.functions c.loop-index.index (rw c.as_slice-one-items.ensures at c.loop-index-test.false) c.loop-index.invariant.matched
