use Rattle.std.proofs.Common.{ap, ◌∙◌}
use Rattle.bl_program.specs.declared.definitions.ProgramParts.{ProgramParts}
use Rattle.bl_iface.specs.JoinedProgram.{client_shift, library_shift}
use Rattle.bl_iface.proofs.DemandLemmas.{demands_are}
use Rattle.bl_iface.proofs.joining.demands_of.Goals as goal

pub returns : goal.returns
returns c =
    demands_are c.args.client.now c.args.library.now c.as_slice-ours.result.now c.as_slice-theirs.result.now c.client_shift-shift.result c.library_shift-their_shift.result _ _ _ _ _
    (c.as_slice-ours.ensures ∙ ap (λ (p : ProgramParts). p.demands) (c.parts.ensures.same ∙ c.program.ensures.same))
    (c.as_slice-theirs.ensures ∙ ap (λ (p : ProgramParts). p.demands) (c.parts-2.ensures.same ∙ c.program-2.ensures.same))
    (c.client_shift-shift.ensures ∙ ap client_shift (c.parts-3.ensures.same ∙ c.program-3.ensures.same))
    (c.library_shift-their_shift.ensures ∙ ap library_shift (c.parts-4.ensures.same ∙ c.program-4.ensures.same))
    c.new-demands.ensures c.in_ok-push_results.ensures c.in_ok-push_results-2.ensures c.in_ok-push_globals.ensures c.in_ok-push_globals-2.ensures
