use Rattle.std.proofs.Common.{◌≡◌, ◌∙◌, ◌+◌, ◌<◌, ℕ, List, All, sym, ap, subst, length}
use Rattle.std.proofs.lemmas.Bool.{false≢true}
use Rattle.bl_program.specs.Layout.{sum_before}
use Rattle.bl_program.specs.Programs.{IsCommand, IsTrapAt}
use Rattle.bl_program.specs.declared.command.Command.{Command}
use Rattle.bl_program.specs.declared.definitions.FunctionDef.{FunctionDef}
use Rattle.bl_program.proofs.program.is_program.Goals as goal

abbrev HasTraps : List Command → Type 0
HasTraps commands = (position : ℕ) → position < 7 → IsTrapAt commands position

abbrev Filled : List FunctionDef → ℕ
Filled functions = 7 + sum_before (λ (f : FunctionDef). f.length) functions (length functions)

pub returns-then-not-are_commands : goal.returns-then-not-are_commands
returns-then-not-are_commands c = (
  λ t. absurd (false≢true t),
  λ p. absurd (false≢true (sym c.if-not-are_commands.true ∙ c.are_commands.ensures.1 (subst (λ (l : List Command). All IsCommand l) (sym c.as_slice-commands.ensures) p.commands))),
)

pub returns-then-not-have_traps : goal.returns-then-not-have_traps
returns-then-not-have_traps c = (
  λ t. absurd (false≢true t),
  λ p. absurd (false≢true (sym c.if-not-have_traps.true ∙ c.have_traps.ensures.1 (subst HasTraps (sym c.as_slice-commands.ensures) p.traps))),
)

pub returns : goal.returns
returns c =
    let count : length c.as_slice-commands.result.now ≡ length c.args.parts.now.commands = ap (length {A = Command}) c.as_slice-commands.ensures in
    let filled = ap Filled c.as_slice.ensures in (
      λ t. record {
        commands = subst (λ (l : List Command). All IsCommand l) c.as_slice-commands.ensures (c.are_commands.ensures.0 c.if-not-are_commands.false);
        traps = subst HasTraps c.as_slice-commands.ensures (c.have_traps.ensures.0 c.if-not-have_traps.false);
        lengths = sym count ∙ c.fill.ensures.0 t ∙ filled;
      },
      λ p. c.fill.ensures.1 (count ∙ p.lengths ∙ sym filled),
    )
