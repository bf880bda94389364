use Rattle.std.proofs.Common.{◌∙◌, ap, map}
use Rattle.bl_base.specs.Runs.{memory_of}
use Rattle.bl_program.specs.Outcomes.{first_memories}
use Rattle.bl_seq.proofs.InitialMachine.{told_as}
use Rattle.bl_seq.proofs.opening.first_memories.Goals as goal

pub returns : goal.returns
returns c =
    told_as (map memory_of) c.pages_of.result _ _ c.pages_of.ensures
    (c.in_ok-contents.ensures.is ∙ ap (λ p. first_memories p c.args.start.now) (c.parts.ensures.same ∙ c.program.ensures.same))
