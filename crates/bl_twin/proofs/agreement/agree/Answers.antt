use Rattle.std.proofs.Common.{◌∙◌, sym, ap, length, map}
use Rattle.std.proofs.lemmas.Bool.{false≢true}
use Rattle.std.proofs.lemmas.List.{length-map}
use Rattle.bl_base.specs.Runs.{memory_of}
use Rattle.bl_program.specs.declared.definitions.ProgramParts.{ProgramParts}
use Rattle.bl_twin.proofs.PublicLists.{there, argument_count, memory_count, carried, agree_from, arguments_from, memories_from}
use Rattle.bl_twin.proofs.agreement.agree.Goals as goal

pub arguments_agree-requires-clause-one : goal.arguments_agree-requires-clause-one
arguments_agree-requires-clause-one c =
    let program = c.args.program.now in
    let same = ap (λ (p : ProgramParts). p.functions) (c.parts-parts.ensures.same ∙ c.program.ensures.same) in
    let exists = there program.functions _ c.args.function c.index-as_slice-function.result _ (c.as_slice.ensures ∙ same) c.requires.one.exists c.index-as_slice-function.is in
    ap length c.as_slice-arguments.ensures ∙ argument_count program c.args.function c.index-as_slice-function.result exists c.args.one.now c.requires.one
    ∙ sym (ap length c.as_slice-params.ensures)

pub arguments_agree-requires-clause-other : goal.arguments_agree-requires-clause-other
arguments_agree-requires-clause-other c =
    let program = c.args.program.now in
    let same = ap (λ (p : ProgramParts). p.functions) (c.parts-parts.ensures.same ∙ c.program.ensures.same) in
    let exists = there program.functions _ c.args.function c.index-as_slice-function.result _ (c.as_slice.ensures ∙ same) c.requires.one.exists c.index-as_slice-function.is in
    ap length c.as_slice-others.ensures ∙ argument_count program c.args.function c.index-as_slice-function.result exists c.args.other.now c.requires.other
    ∙ sym (ap length c.as_slice-params.ensures)

pub returns-then-not-arguments_agree : goal.returns-then-not-arguments_agree
returns-then-not-arguments_agree c =
    let program = c.args.program.now in
    let same = ap (λ (p : ProgramParts). p.functions) (c.parts-parts.ensures.same ∙ c.program.ensures.same) in
    let exists = there program.functions _ c.args.function c.index-as_slice-function.result _ (c.as_slice.ensures ∙ same) c.requires.one.exists c.index-as_slice-function.is in (
      λ t. absurd (false≢true t),
      λ agree. sym c.if-not-arguments_agree.true ∙ c.arguments_agree.ensures.1
          (carried (λ param. param.label) _ _ _ _ _ _ (sym c.as_slice-params.ensures) (sym c.as_slice-arguments.ensures) (sym c.as_slice-others.ensures)
          (arguments_from program c.args.function c.index-as_slice-function.result exists c.args.one.now c.args.other.now agree)),
    )

pub memories_agree-requires-clause-one : goal.memories_agree-requires-clause-one
memories_agree-requires-clause-one c =
    let program = c.args.program.now in
    let same = ap (λ (p : ProgramParts). p.memories) (c.parts-parts.ensures.same ∙ c.program.ensures.same) in
    sym (length-map c.as_slice-2.result.now memory_of)
    ∙ ap length (ap (map memory_of) c.as_slice-2.ensures ∙ c.in_ok-first.ensures) ∙ memory_count program c.args.one.now
    ∙ sym (ap length (c.as_slice-memories.ensures ∙ same))

pub memories_agree-requires-clause-other : goal.memories_agree-requires-clause-other
memories_agree-requires-clause-other c =
    let program = c.args.program.now in
    let same = ap (λ (p : ProgramParts). p.memories) (c.parts-parts.ensures.same ∙ c.program.ensures.same) in
    sym (length-map c.as_slice-3.result.now memory_of)
    ∙ ap length (ap (map memory_of) c.as_slice-3.ensures ∙ c.in_ok-second.ensures) ∙ memory_count program c.args.other.now
    ∙ sym (ap length (c.as_slice-memories.ensures ∙ same))

pub returns : goal.returns
returns c =
    let program = c.args.program.now in
    let parts = c.parts-parts.ensures.same ∙ c.program.ensures.same in
    let exists = there program.functions _ c.args.function c.index-as_slice-function.result _
    (c.as_slice.ensures ∙ ap (λ (p : ProgramParts). p.functions) parts) c.requires.one.exists c.index-as_slice-function.is in
    let memories = c.as_slice-memories.ensures ∙ ap (λ (p : ProgramParts). p.memories) parts in
    let first = ap (map memory_of) c.as_slice-2.ensures ∙ c.in_ok-first.ensures in
    let second = ap (map memory_of) c.as_slice-3.ensures ∙ c.in_ok-second.ensures in (
      λ t. agree_from program c.args.function c.index-as_slice-function.result exists c.args.one.now c.args.other.now c.requires.one c.requires.other
          (carried (λ param. param.label) _ _ _ _ _ _ c.as_slice-params.ensures c.as_slice-arguments.ensures c.as_slice-others.ensures
          (c.arguments_agree.ensures.0 c.if-not-arguments_agree.false))
          (carried (λ memory. memory.label) _ _ _ _ _ _ memories first second (c.memories_agree.ensures.0 t)),
      λ agree. c.memories_agree.ensures.1 (carried (λ memory. memory.label) _ _ _ _ _ _ (sym memories) (sym first) (sym second)
          (memories_from program c.args.function c.index-as_slice-function.result exists c.args.one.now c.args.other.now agree)),
    )
