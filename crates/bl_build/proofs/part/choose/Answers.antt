use Rattle.std.proofs.Common.{◌≡◌, sym, ◌∙◌, subst}
use Rattle.std.specs.FinSet as fin
use Rattle.bl_program.specs.Sites.{is_protected, weight_of}
use Rattle.bl_build.specs.InterfaceStages.{side_of}
use Rattle.bl_build.proofs.InterfaceWork.{marked_weight, not_chosen}
use Rattle.bl_build.proofs.part.choose.Goals as goal

pub returns-in_ok-protected-in-Ok-clause-weight : goal.returns-in_ok-protected-in-Ok-clause-weight
returns-in_ok-protected-in-Ok-clause-weight c =
    let made = c.in_ok-protected-in-Ok.ensures in
    let set = fin.contains c.in-Ok.choice.protects in
    subst (λ p. c.in_ok-protected-in-Ok.field-0.weight ≡ weight_of p (is_protected p)) (sym made.program)
    (made.weight ∙ c.in-Ok.ensures.weight ∙ sym (marked_weight set c.args.program c.in-Ok.ensures.least.sites))

pub returns-in-Err-clause-staged : goal.returns-in-Err-clause-staged
returns-in-Err-clause-staged c = not_chosen c.args.role (side_of c.args.program c.args.iface.now) c.in-Err.error c.in-Err.ensures.refused c.of_choice.result c.of_choice.ensures
