use Rattle.std.proofs.Common.{◌∙◌, ap, sym, map, string_bytes}
use Rattle.clap.specs.Words.{fault_of, is_simple, is_simple_and_free, subcommand_of}
use Rattle.bl_words.proofs.CallWords.{blade_is_free, blade_is_simple, not_among}
use Rattle.bl_words.proofs.command_line.matches_of.Goals as goal

pub returns-in-Ok-try_get_matches_from-clause-taken : goal.returns-in-Ok-try_get_matches_from-clause-taken
returns-in-Ok-try_get_matches_from-clause-taken c =
    let words = map string_bytes c.args.words.now in
    let app = c.in-Ok.ensures in
    let told = c.in-Ok-try_get_matches_from.ensures in (
      ap (λ a. fault_of a words) (sym app) ∙ told.kinds (ap is_simple_and_free app ∙ blade_is_free),
      (told.matches (ap is_simple app ∙ blade_is_simple)).1 ∙ ap (λ a. subcommand_of a words) app,
    )

pub returns-in-Err-clause-refused : goal.returns-in-Err-clause-refused
returns-in-Err-clause-refused c refused none =
    let words = map string_bytes c.args.words.now in
    let app = c.in-Ok.ensures in
    not_among _ _ (ap (λ a. fault_of a words) app ∙ none) (c.reason_of.ensures refused) (c.in-Err.ensures.kinds (ap is_simple_and_free app ∙ blade_is_free))
