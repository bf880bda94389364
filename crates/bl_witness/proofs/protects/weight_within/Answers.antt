use Rattle.std.proofs.Common.{◌∙◌, sym, ap}
use Rattle.bl_program.specs.Sites.{is_protected}
use Rattle.bl_program.proofs.ProtectedWeights.{protect_weighs, protected_site}
use Rattle.bl_witness.proofs.protects.weight_within.Goals as goal

pub site_weight-requires : goal.site_weight-requires
site_weight-requires c =
    let same = c.parts.ensures.same ∙ c.program.ensures.same in
    protected_site c.args.program.now c.args.at (ap (λ p. is_protected p c.args.at) (sym same) ∙ sym c.is_protected.ensures ∙ c.if-is_protected.true)

pub returns-then-is_protected : goal.returns-then-is_protected
returns-then-is_protected c =
    let same = c.parts.ensures.same ∙ c.program.ensures.same in
    protect_weighs c.args.program.now c.args.at c.site_weight.result c.site_weight.ensures.total c.site_weight.ensures.weight
    (ap (λ p. is_protected p c.args.at) (sym same) ∙ sym c.is_protected.ensures ∙ c.if-is_protected.true)
