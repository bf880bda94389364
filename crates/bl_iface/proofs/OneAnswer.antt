-- Two programs and an interface have one answer of `join`, but for want of memory.
use Rattle.std.proofs.Common.{◌≡◌, inl, inr, ℕ, ◌<◌, List, slice_get, take, refl, sym, ap, ◌∙◌}
use Rattle.std.specs.Prelude.{Ok, Err, Result}
use Rattle.std.specs.List.{All}
use Rattle.std.proofs.lemmas.Bool.{cases_order}
use Rattle.std.proofs.lemmas.Option.{same_Some}
use Rattle.bl_base.proofs.Lists.{all_get}
use Rattle.bl_base.specs.declared.quantity.Quantity.{Quantity}
use Rattle.bl_program.specs.declared.definitions.ProgramParts.{ProgramParts as Program}
use Rattle.bl_program.proofs.AppendLemmas.{get_take}
use Rattle.bl_iface.specs.Answers.{IsFirstWithout, JoinAnswers, StandsAgainst}
use Rattle.bl_iface.specs.JoinedProgram.{HasSameTypes, IsNew, IsWithin, kept, sums}
use Rattle.bl_iface.specs.declared.iface.Iface.{Iface}
use Rattle.bl_iface.specs.declared.limits.Sum.{Sum}
use Rattle.bl_iface.specs.declared.error.JoinError.{JoinError}
use Rattle.bl_iface.specs.declared.error.JoinError.TheVariants.{Types, Export, Limit, Memory}

module _ {X : Type 0} (P : X → Type 0) (xs : List X) where
  pub none_of_all : (i : ℕ) → IsFirstWithout P xs i → All P xs → ⊥
  none_of_all i h all = h.without (all_get P xs i h.item all h.stands)

  not_before : (i j : ℕ) → IsFirstWithout P xs i → IsFirstWithout P xs j → i < j → ⊥
  not_before i j h k lt = h.without (all_get P (take j xs) i h.item k.before (get_take j xs i lt ∙ h.stands))

  pub first_one : (i j : ℕ) → IsFirstWithout P xs i → IsFirstWithout P xs j → i ≡ j
  first_one i j h k = elim (cases_order i j) as (λ _. i ≡ j) [
    | inl same ↦ same
    | inr apart ↦ absurd (elim apart as (λ _. ⊥) [ inl less ↦ not_before i j h k less | inr more ↦ not_before j i k h more ])
  ]

module _ (client library : Program) (iface : Iface) where
  no_types : (i : ℕ) → StandsAgainst client library iface (Types i) → All (HasSameTypes client library) iface.functions → ⊥
  no_types = none_of_all (HasSameTypes client library) iface.functions

  no_export : (i : ℕ) → IsFirstWithout (IsNew (kept iface client)) library.exports i → All (IsNew (kept iface client)) library.exports → ⊥
  no_export = none_of_all (IsNew (kept iface client)) library.exports

  pub limits_one : (p q : Quantity) (m n : ℕ) → StandsAgainst client library iface (Limit p m) → StandsAgainst client library iface (Limit q n) → Limit p m ≡ Limit q n
  limits_one p q m n a b =
      let one = a.2 in
      let other = b.2 in
      let place = first_one IsWithin (sums client library) one.1.0 other.1.0 one.1.2 other.1.2 in
      let sum : one.0 ≡ other.0 = same_Some one.0 other.0 (sym one.1.1 ∙ ap (slice_get (sums client library)) place ∙ other.1.1) in
      let which : p ≡ q = sym one.2 ∙ ap (λ (s : Sum). s.which) sum ∙ other.2 in
      let value : m ≡ n = sym one.3 ∙ ap (λ (s : Sum). s.value) sum ∙ other.3 in
      ap (λ k. Limit k m) which ∙ ap (Limit q) value

  pub one_answer : (a b : Result Program JoinError) → JoinAnswers client library iface a → JoinAnswers client library iface b
      → (a ≡ Err Memory → ⊥) → (b ≡ Err Memory → ⊥) → a ≡ b
  one_answer (Err Memory) b h k p q = absurd (p refl)
  one_answer (Ok x) (Err Memory) h k p q = absurd (q refl)
  one_answer (Err (Types i)) (Err Memory) h k p q = absurd (q refl)
  one_answer (Err (Export i)) (Err Memory) h k p q = absurd (q refl)
  one_answer (Err (Limit w v)) (Err Memory) h k p q = absurd (q refl)
  one_answer (Ok x) (Ok y) h k p q = ap Ok (h.1 ∙ sym k.1)
  one_answer (Ok x) (Err (Types j)) h k p q = absurd (no_types j k h.0.types)
  one_answer (Ok x) (Err (Export j)) h k p q = absurd (no_export j k.1 h.0.exports)
  one_answer (Ok x) (Err (Limit w v)) h k p q = absurd (none_of_all IsWithin (sums client library) k.2.1.0 k.2.1.2 h.0.limits)
  one_answer (Err (Types i)) (Ok y) h k p q = absurd (no_types i h k.0.types)
  one_answer (Err (Types i)) (Err (Types j)) h k p q = ap (λ n. Err (Types n)) (first_one (HasSameTypes client library) iface.functions i j h k)
  one_answer (Err (Types i)) (Err (Export j)) h k p q = absurd (no_types i h k.0)
  one_answer (Err (Types i)) (Err (Limit w v)) h k p q = absurd (no_types i h k.0)
  one_answer (Err (Export i)) (Ok y) h k p q = absurd (no_export i h.1 k.0.exports)
  one_answer (Err (Export i)) (Err (Types j)) h k p q = absurd (no_types j k h.0)
  one_answer (Err (Export i)) (Err (Export j)) h k p q = ap (λ n. Err (Export n)) (first_one (IsNew (kept iface client)) library.exports i j h.1 k.1)
  one_answer (Err (Export i)) (Err (Limit w v)) h k p q = absurd (no_export i h.1 k.1)
  one_answer (Err (Limit w v)) (Ok y) h k p q = absurd (none_of_all IsWithin (sums client library) h.2.1.0 h.2.1.2 k.0.limits)
  one_answer (Err (Limit w v)) (Err (Types j)) h k p q = absurd (no_types j k h.0)
  one_answer (Err (Limit w v)) (Err (Export j)) h k p q = absurd (no_export j k.1 h.1)
  one_answer (Err (Limit w v)) (Err (Limit x u)) h k p q = ap Err (limits_one w x v u h k)
