-- In which ranges positions, variables and weights lie.
use Rattle.std.specs.Prelude.{◌≡◌, ◌+◌, ◌^◌, ◌<◌, ℕ, Bool, true, IsTrue, length, Some}
use Rattle.bl_program.specs.Layout.{first_of}
use Rattle.bl_program.specs.Sites.{IsLoad, Writes, Reads, SinkReads, IsSite, site_weight, weight_of}
use Rattle.bl_program.specs.declared.definitions.ProgramParts.{ProgramParts as Program}

-- the number of a program's commands, and of its variables
abbrev pub commands : Program → ℕ
commands program = length program.commands

abbrev pub variables : Program → ℕ
variables program = first_of program (length program.functions)

-- a set of sites
abbrev pub AreSites : Program → (ℕ → Bool) → Type 0
AreSites program set = (s : ℕ) → IsTrue (set s) → IsSite program s

-- sites and variables are in range, each weight is at least 1, and all weights add up to less than 2^63
pub record AreInRange (program : Program) : Type 0 where
  pub loads : (s : ℕ) → IsLoad program s → IsSite program s
  pub writes : (s x : ℕ) → Writes program s x → IsSite program s × (x < variables program)
  pub reads : (s x : ℕ) → Reads program s x → IsSite program s × (x < variables program)
  pub sinks : (position x : ℕ) → SinkReads program position x → (position < commands program) × (x < variables program)
  pub sites : (s : ℕ) → IsSite program s → s < commands program
  pub weights : (s w : ℕ) → site_weight program s ≡ Some w → 0 < w
  pub total : weight_of program (λ _. true) < 2 ^ 63
  pub numbers : commands program + variables program < 2 ^ 32
