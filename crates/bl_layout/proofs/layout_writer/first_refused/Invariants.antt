use Rattle.std.proofs.Common.{◌≡◌, ◌<◌, ◌≤◌, ℕ, Some}
use Rattle.bl_program.specs.Layout.{command_at}
use Rattle.bl_program.specs.declared.command.Command.{Command}
use Rattle.bl_layout.specs.Blocks.{IsWritable}
use Rattle.bl_layout.proofs.layout_writer.first_refused.Given as goal

abbrev pub invariant-loop-position : goal.invariant-loop-position
invariant-loop-position l = (other : ℕ) (earlier : Command) → 7 ≤ other → other < l.position → command_at l.layout.parts.now other ≡ Some earlier
    → IsWritable l.layout.parts.now other earlier
