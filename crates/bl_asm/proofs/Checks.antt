-- The check of a program, one instruction after another.
use Rattle.std.proofs.Common.{◌≡◌, ℕ, ◌+◌, ◌<◌, ◌≤◌, ◌⊎◌, inl, inr, List, length, get_or, Some, slice_get, sym, ap, ◌∙◌, subst, arith}
use Rattle.std.proofs.lemmas.Bool.{cases_lt}
use Rattle.std.proofs.lemmas.Option.{same_Some, slice_get-get_or}
use Rattle.bl_x64.specs.Programs.{IsInstruction}
use Rattle.bl_x64.specs.declared.instruction.Instruction.{Instruction}
use Rattle.bl_asm.specs.Assembly.{AreInstructions, IsAimed}
use Rattle.bl_asm.proofs.Places.{is_within}

pub one_more : (code : List Instruction) (n : ℕ) (d : Instruction) → n < length code
    → ((k : ℕ) (i : Instruction) → k < n → slice_get code k ≡ Some i → IsInstruction i × IsAimed code i) → IsInstruction (get_or code n d) → IsAimed code (get_or code n d)
    → (k : ℕ) (i : Instruction) → k < n + 1 → slice_get code k ≡ Some i → IsInstruction i × IsAimed code i
one_more code n d lt so_far good aimed k i h e = by_order (cases_lt k n)
  where
    by_order : (k < n) ⊎ (n ≤ k) → IsInstruction i × IsAimed code i
    by_order (inl low) = so_far k i low e
    by_order (inr le) =
        let here : k ≡ n = omega arith in
        let same : get_or code n d ≡ i = same_Some (get_or code n d) i (sym (slice_get-get_or code n d lt) ∙ ap (slice_get code) (sym here) ∙ e) in
        (subst IsInstruction same good, subst (IsAimed code) same aimed)

pub all_checked : (code : List Instruction) (n : ℕ) → length code ≤ n
    → ((k : ℕ) (i : Instruction) → k < n → slice_get code k ≡ Some i → IsInstruction i × IsAimed code i) → AreInstructions code
all_checked code n le h = record {
  each = λ k i e. (h k i (omega (arith, is_within code k i e)) e).0;
  aims = λ k i e. (h k i (omega (arith, is_within code k i e)) e).1;
}
