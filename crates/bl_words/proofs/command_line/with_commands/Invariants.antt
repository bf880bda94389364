use Rattle.std.proofs.Common.{◌≡◌, drop}
use Rattle.clap.specs.Walk.{texts}
use Rattle.clap.specs.Words.{app_of}
use Rattle.bl_words.specs.CommandLine.{with_commands as commands_in}
use Rattle.bl_words.proofs.command_line.with_commands.Given as goal

abbrev pub invariant-loop-name : goal.invariant-loop-name
invariant-loop-name l = commands_in (app_of l.program) (texts (drop l.name-index l.names)) ≡ commands_in (app_of l.initial.program) (texts l.names)
