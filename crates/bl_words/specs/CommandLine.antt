-- The command line, as `clap` is told it: one level of subcommands, all of one shape.
use Rattle.std.specs.Prelude.{ℕ, codes, List, [], ◌∷◌, Some, true, unwrap_or, fold, map}
use Rattle.clap.specs.Walk.{Row, Rule, Text, all_of}
use Rattle.clap.specs.Simple.{App, Shape, new_shape, new_rule, with_subcommand}
use Rattle.clap.specs.declared.builder.action.ArgAction.TheVariants.{Append}
use Rattle.bl_words.specs.Requests.{commands}

-- the arguments, in order
abbrev pub argument_rule : Rule
argument_rule = record (new_rule (codes "argument")) { action = Some Append }

-- an option, each time that it stands
abbrev pub option_rule : Text → Rule
option_rule name = record (new_rule name) { long = Some name; action = Some Append }

abbrev pub command_shape : List ℕ → Shape
command_shape name = record (new_shape name) { rules = argument_rule ∷ option_rule (codes "steps") ∷ option_rule (codes "counts") ∷ [] }

abbrev pub bare_app : App
bare_app = record {
  top = record (new_shape (codes "blade")) {
    disable_help_flag = true;
    disable_help_subcommand = true;
    disable_version_flag = true;
    subcommand_required = true;
  };
  subs = [];
}

abbrev pub with_commands : App → List Text → App
with_commands = fold (λ app name. with_subcommand app (command_shape name))

abbrev pub blade_app : App
blade_app = with_commands bare_app (map (λ command. command.name) commands)

-- the values under an id
abbrev pub content : Text → List Row → List Text
content id rows = unwrap_or (all_of id rows) []
