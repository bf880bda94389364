use Rattle.std.proofs.Common.{◌++◌, ◌∙◌, ap, ap₂, sym, subst}
use Rattle.json.specs.Print.{print}
use Rattle.bl_graph.specs.declared.certificate.Certificate.{Certificate}
use Rattle.bl_witness.specs.Shapes.{IsReadAs}
use Rattle.bl_witness.specs.Texts.{certificate_text}
use Rattle.bl_witness.specs.Tokens.{certificate_tokens}
use Rattle.bl_witness.proofs.ReadBack.{read_as}
use Rattle.bl_witness.proofs.RoundTrip.{reads_back}
use Rattle.bl_witness.proofs.Texts.{printed}
use Rattle.bl_witness.proofs.write.to_json.Goals as goal

pub returns-clause-text : goal.returns-clause-text
returns-clause-text c =
    let kept : Certificate = c.args.certificate.now in
    let written = c.in_ok-write_certificate.ensures in
    let before = written.before ∙ c.new-out.ensures.before ∙ c.new.ensures.items in
    let is = written.tokens ∙ ap (λ ts. ts ++ certificate_tokens kept) c.new-out.ensures.tokens in
    c.of.ensures ∙ c.into_inner.ensures.items ∙ ap₂ (λ b ts. b ++ print ts) before is ∙ printed kept

pub returns-clause-back : goal.returns-clause-back
returns-clause-back c =
    let kept : Certificate = c.args.certificate.now in
    subst (λ text. IsReadAs text kept) (sym (returns-clause-text c)) (read_as kept (certificate_text kept) (reads_back kept c.in_range.ensures))
