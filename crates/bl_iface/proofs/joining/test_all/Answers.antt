use Rattle.std.proofs.Common.{List, ap, subst, ◌∙◌}
use Rattle.std.specs.Prelude.{MatchOption}
use Rattle.std.specs.List.{All}
use Rattle.bl_program.specs.Programs.{IsProgram}
use Rattle.bl_program.specs.declared.definitions.ExportDef.{ExportDef}
use Rattle.bl_program.specs.declared.definitions.ProgramParts.{ProgramParts}
use Rattle.bl_iface.specs.Answers.{IsFirstWithout}
use Rattle.bl_iface.specs.JoinedProgram.{CanJoin, HasSameTypes, IsNew, IsWithin}
use Rattle.bl_iface.proofs.JoinedWellFormed.{joined_is, joined_well}
use Rattle.bl_iface.proofs.joining.test_all.Goals as goal
use Rattle.bl_iface.proofs.joining.test_all.Goals.{In-None}

can_join : (c : In-None) → CanJoin c.args.client.now c.args.library.now c.args.iface.now
can_join c =
    let ours = c.parts-client_parts.ensures.same ∙ c.program.ensures.same in
    let theirs = c.parts-library_parts.ensures.same ∙ c.program-2.ensures.same in
    let new : All (IsNew c.args.kept.now) c.as_slice.result.now =
    subst (λ o. MatchOption o (All (IsNew c.args.kept.now) c.as_slice.result.now) (IsFirstWithout (IsNew c.args.kept.now) c.as_slice.result.now)) c.in_default-2.is c.in_ok-index.ensures in
    record {
      types = subst (λ (p : ProgramParts). All (HasSameTypes p c.args.library.now) c.args.iface.now.functions) ours
          (subst (λ (p : ProgramParts). All (HasSameTypes c.parts-client_parts.result.now p) c.args.iface.now.functions) theirs c.in_default.ensures);
      exports = subst (λ (k : List ExportDef). All (IsNew k) c.args.library.now.exports) c.requires.kept
          (subst (All (IsNew c.args.kept.now)) (c.as_slice.ensures ∙ ap (λ (p : ProgramParts). p.exports) theirs) new);
      limits = subst (All IsWithin) c.sums.ensures c.in-None.ensures;
    }

pub returns-in-None-clause-can : goal.returns-in-None-clause-can
returns-in-None-clause-can c = can_join c

pub returns-in-None-clause-program : goal.returns-in-None-clause-program
returns-in-None-clause-program c =
    let ours = subst IsProgram c.program.ensures.same c.parts-client_parts.ensures.facts in
    let theirs = subst IsProgram c.program-2.ensures.same c.parts-library_parts.ensures.facts in
    joined_is c.args.client.now c.args.library.now c.args.iface.now ours theirs

pub returns-in-None-clause-rules : goal.returns-in-None-clause-rules
returns-in-None-clause-rules c =
    let ours = subst IsProgram c.program.ensures.same c.parts-client_parts.ensures.facts in
    let theirs = subst IsProgram c.program-2.ensures.same c.parts-library_parts.ensures.facts in
    joined_well c.args.client.now c.args.library.now c.args.iface.now ours theirs c.program.ensures.rules c.program-2.ensures.rules (can_join c)
