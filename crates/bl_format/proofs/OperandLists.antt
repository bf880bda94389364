-- Operands one behind the other.
use Rattle.std.proofs.Common.{ℕ, List, [], append-nil, sym, refl}
use Rattle.bl_program.specs.declared.command.Operand.{Operand}
use Rattle.bl_leb.specs.Grammar.{Spellings, ◌⨾◌, nothing}
use Rattle.bl_format.specs.Image.{operand}

-- a last part
pub last : (B : Spellings) (t : List ℕ) → B t → (B ⨾ nothing) t
last B t h = record { front = t; rest = []; whole = sym (append-nil t); first = h; second = refl }

-- the second of two parts by another
pub second_part : (A B C : Spellings) (t : List ℕ) → ((s : List ℕ) → B s → C s) → (A ⨾ B) t → (A ⨾ C) t
second_part A B C t along h = record { front = h.front; rest = h.rest; whole = h.whole; first = h.first; second = along h.rest h.second }

-- three operands
abbrev pub three : Operand × (Operand × Operand) → Spellings
three these = operand these.0 ⨾ operand these.1.0 ⨾ operand these.1.1

pub three_last : (y : Operand × (Operand × Operand)) (t : List ℕ) → three y t → (operand y.0 ⨾ operand y.1.0 ⨾ operand y.1.1 ⨾ nothing) t
three_last y t h = second_part (operand y.0) (operand y.1.0 ⨾ operand y.1.1) (operand y.1.0 ⨾ operand y.1.1 ⨾ nothing) t (λ u. second_part (operand y.1.0) (operand y.1.1) (operand y.1.1 ⨾ nothing) u (λ v. last (operand y.1.1) v)) h
