-- The machine before its first step.
use Rattle.std.proofs.Common.{◌≡◌, ℕ, ◌≤◌, List, [], length, ap, ◌∙◌, subst, sym, arith}
use Rattle.bl_base.specs.declared.start.Start.{Start}
use Rattle.bl_program.specs.Layout.{entry_of}
use Rattle.bl_program.specs.Outcomes.{opening as plain_opening}
use Rattle.bl_program.specs.Steps.{Registers, Plain}
use Rattle.bl_program.specs.declared.definitions.ProgramParts.{ProgramParts as Program}
use Rattle.bl_rob.specs.Machines.{State, at_position, opening}
use Rattle.bl_rob.specs.declared.entry.Entry.{Entry}

abbrev made : List Entry → ℕ → List ℕ → Registers → List ℕ → State
made buffer position chain registers space = record { buffer = buffer; front = at_position position chain; registers = registers; space = space; retired = 0 }

module _ (program : Program) (function : ℕ) (start : Start) where
  pub begun : (s : Plain) (position : ℕ) (chain : List ℕ) (buffer : List Entry) → s ≡ plain_opening program function start → position ≡ entry_of program function
      → chain ≡ [] → buffer ≡ []
      → record { buffer = buffer; front = at_position position chain; registers = s.registers; space = s.space; retired = 0 } ≡ opening program function start
  begun s position chain buffer h e none empty =
      ap (λ b. made b position chain s.registers s.space) empty
      ∙ ap (λ l. made [] position l s.registers s.space) none
      ∙ ap (λ k. made [] k [] s.registers s.space) e
      ∙ ap (λ (x : Plain). made [] (entry_of program function) [] x.registers x.space) h

  -- it has no entry
  pub begun_fits : (most : ℕ) (s : State) → s ≡ opening program function start → length s.buffer ≤ most
  begun_fits most s is = subst (λ (x : State). length x.buffer ≤ most) (sym is) (omega arith)
