use Rattle.std.proofs.Common.{◌≡◌, ◌∙◌, sym, subst}
use Rattle.bl_program.specs.Programs.{IsProgram}
use Rattle.bl_program.specs.declared.definitions.ProgramParts.{ProgramParts as Program}
use Rattle.bl_ct.specs.Facts.{AreFacts, HasNoSecrets}
use Rattle.bl_ct.specs.Verdicts.{AreSecrets}
use Rattle.bl_ct.proofs.KnownRanges.{names_all, secrets_in_range, vars_small}
use Rattle.bl_ct.proofs.NoSecrets.{no_secrets}
use Rattle.bl_ct.proofs.verdict.secrets_of.Goals as goal

pub names_of-requires-clause-more : goal.names_of-requires-clause-more
names_of-requires-clause-more c =
    let program : Program = c.args.program.now in
    let same : c.parts-parts.result.now ≡ program = c.parts-parts.ensures.same ∙ c.program.ensures.same in
    let facts : AreFacts program c.in_ok-facts.facts = subst (λ p. AreFacts p c.in_ok-facts.facts) same c.in_ok-facts.ensures in
    vars_small program c.in_ok-facts.facts facts c.deref.result.now (c.deref.ensures.value ∙ c.in_ok-vars.ensures)
    (secrets_in_range program (subst IsProgram c.program.ensures.same c.parts-parts.ensures.facts) c.program.ensures.rules)

pub judge-requires : goal.judge-requires
judge-requires c =
    let program : Program = c.args.program.now in
    let same : c.parts-parts.result.now ≡ program = c.parts-parts.ensures.same ∙ c.program.ensures.same in
    let facts : AreFacts program c.in_ok-facts.facts = subst (λ p. AreFacts p c.in_ok-facts.facts) same c.in_ok-facts.ensures in
    record {
      is_program = subst IsProgram c.program.ensures.same c.parts-parts.ensures.facts;
      rules = c.program.ensures.rules;
      graph = c.requires;
      facts = facts;
      names = names_all program c.in_ok-facts.facts facts c.deref.result.now (c.deref.ensures.value ∙ c.in_ok-vars.ensures) c.in_ok-names.names c.in_ok-names.ensures.names c.in_ok-names.ensures.more;
    }

pub returns-then-has_no_secrets : goal.returns-then-has_no_secrets
returns-then-has_no_secrets c =
    let none : HasNoSecrets c.args.program.now =
    subst HasNoSecrets (c.parts-parts.ensures.same ∙ c.program.ensures.same) (c.has_no_secrets.ensures.0 c.if-has_no_secrets.true) in
    subst (AreSecrets c.args.program.now) (sym c.new.ensures.items) (no_secrets c.args.program.now none)
