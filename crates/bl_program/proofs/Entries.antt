-- Entries of functions are positions.
use Rattle.std.proofs.Common.{ℕ, zero, suc, ◌≤◌, List, [], ◌∷◌, length, arith}
use Rattle.bl_program.specs.Layout.{sum_before, entry_of}
use Rattle.bl_program.specs.Programs.{IsProgram}
use Rattle.bl_program.specs.Rules.{IsWellFormed}
use Rattle.bl_program.specs.declared.definitions.ProgramParts.{ProgramParts as Program}

-- no sum is greater than that over all
most : {X : Type 0} (f : X → ℕ) (items : List X) (place : ℕ) → sum_before f items place ≤ sum_before f items (length items)
most f [] zero = omega arith
most f [] (suc place) = omega arith
most f (x ∷ items) zero = omega arith
most f (x ∷ items) (suc place) = let le = most f items place in omega arith

pub entry_small : (program : Program) (function : ℕ) → IsProgram program → IsWellFormed program → entry_of program function ≤ 1048576
entry_small program function facts rules =
    let le = most (λ f. f.length) program.functions function in
    let all = facts.lengths in
    let few = rules.rule2.commands in
    omega arith
