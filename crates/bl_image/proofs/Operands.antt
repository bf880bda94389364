-- The operands of a Set: as many as its operator takes.
use Rattle.std.proofs.Common.{ℕ, List, ◌++◌, append-nil, sym, ap, ap₂, ◌∙◌, refl, subst, arith}
use Rattle.bl_program.specs.Programs.{arity, IsCommand}
use Rattle.bl_program.specs.declared.command.Operand.{Operand}
use Rattle.bl_program.specs.declared.command.Operand.TheVariants.{Const}
use Rattle.bl_leb.specs.Grammar.{Spellings, ◌⨾◌, nothing, given}
use Rattle.bl_format.specs.Grammar.{u32}
use Rattle.bl_format.specs.Image.{operand, operator, mark, command_code, fields}
use Rattle.bl_image.specs.ReaderAnswers.{Begins, NoneBegins, operands_of, fields_behind}
use Rattle.bl_format.proofs.OperandLists.{last, second_part, three, three_last}
use Rattle.bl_image.proofs.ReaderLemmas.{begins_via, none_via, begins_both, none_second, none_head, begins_case, none_case}
use Rattle.bl_image.proofs.CodeCases.{Operands, SetParts, to_set, is_set}

-- what stands for an operand that isn't taken
abbrev pub zero_operand : Operand
zero_operand = Const 0

-- a last part
pub only_part : (B : Spellings) (t : List ℕ) → (B ⨾ nothing) t → B t
only_part B t h = subst B (sym (h.whole ∙ ap (λ r. h.front ++ r) h.second ∙ append-nil h.front)) h.first

-- one operand
pub one_operand : (s r : List ℕ) (a : Operand) → Begins operand s a r → Begins (operands_of 1) s (a, (zero_operand, zero_operand)) r
one_operand s r a p =
    begins_via operand (operands_of 1) s r a (a, (zero_operand, zero_operand))
    (λ t h. ((λ less. refl, λ less. refl), last (operand a) t h))
    (λ y t h. (y.0, only_part (operand y.0) t h.1, λ e. ap₂ (λ x z. (x, z)) e (ap₂ (λ x z. (x, z)) (h.0.0 (omega arith)) (h.0.1 (omega arith))))) p

pub no_operand : (s : List ℕ) → NoneBegins operand s → NoneBegins (operands_of 1) s
no_operand s p = none_via operand (operands_of 1) s (λ y t h. (y.0, only_part (operand y.0) t h.1)) p

-- two operands
abbrev pub two : Operand × Operand → Spellings
two these = operand these.0 ⨾ operand these.1

pub two_operands : (s r : List ℕ) (a b : Operand) → Begins two s (a, b) r → Begins (operands_of 2) s (a, (b, zero_operand)) r
two_operands s r a b p =
    begins_via two (operands_of 2) s r (a, b) (a, (b, zero_operand))
    (λ t h. ((λ less. absurd (omega arith), λ less. refl), second_part (operand a) (operand b) (operand b ⨾ nothing) t (λ u. last (operand b) u) h))
    (λ y t h. ((y.0, y.1.0), second_part (operand y.0) (operand y.1.0 ⨾ nothing) (operand y.1.0) t (λ u. only_part (operand y.1.0) u) h.1, λ e. ap₂ (λ (x : Operand × Operand) z. (x.0, (x.1, z))) e (h.0.1 (omega arith)))) p

pub no_two_operands : (s : List ℕ) → NoneBegins two s → NoneBegins (operands_of 2) s
no_two_operands s p = none_via two (operands_of 2) s (λ y t h. ((y.0, y.1.0), second_part (operand y.0) (operand y.1.0 ⨾ nothing) (operand y.1.0) t (λ u. only_part (operand y.1.0) u) h.1)) p

-- three operands
pub three_only : (y : Operands) (t : List ℕ) → (operand y.0 ⨾ operand y.1.0 ⨾ operand y.1.1 ⨾ nothing) t → three y t
three_only y t h = second_part (operand y.0) (operand y.1.0 ⨾ operand y.1.1 ⨾ nothing) (operand y.1.0 ⨾ operand y.1.1) t (λ u. second_part (operand y.1.0) (operand y.1.1 ⨾ nothing) (operand y.1.1) u (λ v. only_part (operand y.1.1) v)) h

pub three_operands : (s r : List ℕ) (y : Operands) → Begins three s y r → Begins (operands_of 3) s y r
three_operands s r y p = begins_via three (operands_of 3) s r y y (λ t h. ((λ less. absurd (omega arith), λ less. absurd (omega arith)), three_last y t h)) (λ z t h. (z, three_only z t h.1, λ e. e)) p

pub no_three_operands : (s : List ℕ) → NoneBegins three s → NoneBegins (operands_of 3) s
no_three_operands s p = none_via three (operands_of 3) s (λ z t h. (z, three_only z t h.1)) p

-- a Set: its parts, and behind them its operands
abbrev pub set_parts : SetParts → Spellings
set_parts p = mark p.0 ⨾ operator p.1.0 ⨾ u32 p.1.1.0

abbrev pub set_spelled : SetParts × Operands → Spellings
set_spelled p = set_parts p.0 ⨾ operands_of (arity p.0.1.0) p.1

set_to : (p : SetParts × Operands) (t : List ℕ) → set_spelled p t → given (IsCommand (to_set p)) (fields (to_set p)) t
set_to p t h = (h.second.0, record { front = h.front; rest = h.rest; whole = h.whole; first = h.first; second = h.second.1 })

pub set_from : (p : SetParts × Operands) (t : List ℕ) → given (IsCommand (to_set p)) (fields (to_set p)) t → set_spelled p t
set_from p t h = record { front = h.1.front; rest = h.1.rest; whole = h.1.whole; first = h.1.first; second = (h.0, h.1.second) }

pub set_found : (s m r : List ℕ) (p : SetParts) (these : Operands) → Begins set_parts s p m → Begins (operands_of (arity p.1.0)) m these r → Begins (fields_behind 0) s (to_set (p, these)) r
set_found s m r p these front rest =
    let both = begins_both set_parts (λ q. operands_of (arity q.1.0)) s m r p these front rest in
    begins_case command_code (λ y. given (IsCommand y) (fields y)) to_set 0 s r (p, these) refl is_set
    (begins_via set_spelled (λ q. given (IsCommand (to_set q)) (fields (to_set q))) s r (p, these) (p, these) (set_to (p, these)) (λ y t h. (y, set_from y t h, λ e. e)) both)

none_set : (s : List ℕ) → NoneBegins set_spelled s → NoneBegins (fields_behind 0) s
none_set s none =
    none_case command_code (λ y. given (IsCommand y) (fields y)) to_set 0 s is_set
    (none_via set_spelled (λ q. given (IsCommand (to_set q)) (fields (to_set q))) s (λ y t h. (y, set_from y t h)) none)

pub no_set : (s : List ℕ) → NoneBegins set_parts s → NoneBegins (fields_behind 0) s
no_set s none = none_set s (none_head set_parts (λ (q : SetParts × Operands). q.0) (λ q. operands_of (arity q.0.1.0) q.1) s none)

pub no_set_operands : (s m : List ℕ) (p : SetParts) → Begins set_parts s p m → NoneBegins (operands_of (arity p.1.0)) m → NoneBegins (fields_behind 0) s
no_set_operands s m p front none = none_set s (none_second set_parts (λ q. operands_of (arity q.1.0)) s m p front none)
