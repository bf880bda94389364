use Rattle.std.proofs.Common.{◌≡◌, ◌++◌, drop}
use Rattle.std.specs.Prelude.{option_map}
use Rattle.bl_iface.specs.Files.{letters}
use Rattle.bl_iface.proofs.read.read_letters.Given as goal

-- the flows so far, and those of the rest
abbrev pub invariant-loop-letter : goal.invariant-loop-letter
invariant-loop-letter l = letters l.word ≡ option_map (λ more. l.flows ++ more) (letters (drop l.letter-index l.word))
