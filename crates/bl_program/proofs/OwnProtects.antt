-- A program's own protects.
use Rattle.std.proofs.Common.{◌≡◌, inl, inr, ℕ, ◌≤◌, false, length, sym, ap, ◌∙◌, arith}
use Rattle.std.proofs.lemmas.Bool.{and_right, cases_lt, lt-ltb}
use Rattle.std.proofs.lemmas.Option.{slice_get_past}
use Rattle.std.specs.FinSet as fin
use Rattle.std.specs.FinSet.{FinSet}
use Rattle.std.specs.Ordering.{nat_cmp}
use Rattle.std.specs.Prelude.{◌&&◌, nat_lt, option_map, option_and_then, unwrap_or}
use Rattle.bl_base.proofs.PositionSets.{HoldsBelow}
use Rattle.bl_program.specs.Sites.{is_protected, mark_of}
use Rattle.bl_program.specs.declared.command.Mark.{Mark}
use Rattle.bl_program.specs.declared.definitions.ProgramParts.{ProgramParts as Program}

-- behind the last command none stands
past : (program : Program) (s : ℕ) → length program.commands ≤ s → is_protected program s ≡ false
past program s le = ap (λ o. unwrap_or (option_map (λ (mark : Mark). mark.protect) (option_and_then mark_of o)) false) (slice_get_past program.commands s le)

-- so those of all commands are all
pub guarded_all : (program : Program) (set : FinSet nat_cmp) (n : ℕ) → n ≡ length program.commands → HoldsBelow (is_protected program) set n
    → (s : ℕ) → fin.contains set s ≡ is_protected program s
guarded_all program set n e holds s =
    holds s ∙
    elim (cases_lt s n) as (λ _. (nat_lt s n && is_protected program s) ≡ is_protected program s) [
      | inl lt ↦ ap (λ b. b && is_protected program s) (lt-ltb s n lt)
      | inr le ↦ let none = past program s (omega arith) in and_right (nat_lt s n) (is_protected program s) none ∙ sym none
    ]
