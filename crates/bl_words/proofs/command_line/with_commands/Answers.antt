use Rattle.std.proofs.Common.{◌≡◌, ◌∙◌, ◌+◌, ap, sym, ℕ, suc, List, [], ◌∷◌, drop, drop-cons, get_or, arith}
use Rattle.std.specs.Borrow.{Bor}
use Rattle.clap.specs.Walk.{Text, texts}
use Rattle.clap.specs.Simple.{App, with_subcommand}
use Rattle.clap.specs.Words.{app_of}
use Rattle.bl_words.specs.CommandLine.{command_shape, with_commands as commands_in}
use Rattle.bl_words.proofs.command_line.with_commands.Goals as goal

-- one more command, the first of the rest
one_more : (program next : App) (name : Bor Text) (names rest : List (Bor Text)) → rest ≡ name ∷ names → next ≡ with_subcommand program (command_shape name.now)
    → commands_in next (texts names) ≡ commands_in program (texts rest)
one_more program next name names rest cut is = ap (λ a. commands_in a (texts names)) is ∙ sym (ap (λ l. commands_in program (texts l)) cut)

suc_is : (i : ℕ) → suc i ≡ i + 1
suc_is i = omega arith

pub loop-name-preserved : goal.loop-name-preserved
loop-name-preserved c =
    let names = c.args.names.now in
    let i = c.loop-name.name-index in
    let name : Bor Text = get_or names i (record { ref_ptr = (0, 0); now = [] }) in
    one_more _ _ name (drop (i + 1) names) (drop i names)
    (drop-cons names i _ c.loop-name-test.true ∙ ap (λ n. name ∷ drop n names) (suc_is i))
    (c.in_ok-program.ensures.shape c.in_ok-command.ensures.local ∙ ap (λ (a : App). with_subcommand (app_of c.loop-name.program) a.top) c.in_ok-command.ensures.app)
    ∙ c.loop-name.invariant
