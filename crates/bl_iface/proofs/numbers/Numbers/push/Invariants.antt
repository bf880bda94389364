use Rattle.std.proofs.Common.{◌≡◌, ◌++◌, map, take}
use Rattle.bl_iface.specs.JoinedProgram.{renamed}
use Rattle.bl_iface.specs.PartNumbers.{numbers_by}
use Rattle.bl_iface.proofs.numbers.Numbers.push.Given as goal

abbrev pub invariant-loop-command : goal.invariant-loop-command
invariant-loop-command l = l.to ≡ l.initial.to ++ map (renamed (numbers_by l.self)) (take l.command-index l.commands)
