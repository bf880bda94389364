-- Several parts whose names differ can be linked.
use Rattle.std.proofs.Common.{◌≡◌, ℕ, ◌<◌, zero, suc, List, [], ◌∷◌, ◌++◌, length, length-append, Some, slice_get, sym, subst, arith}
use Rattle.std.specs.List.{All}
use Rattle.std.proofs.lemmas.List.Elements.{All-append, All-cons, All-nil}
use Rattle.std.proofs.lemmas.Option.{none-some, same_Some}
use Rattle.bl_base.proofs.Lists.{all_get}
use Rattle.bl_link.specs.Linkable.{AreParts, IsPart}
use Rattle.bl_link.specs.Stores.{AreApart}
use Rattle.bl_link.specs.declared.part.Part.{Part}
use Rattle.bl_link.proofs.NameLemmas.{apart_append}
use Rattle.bl_link.proofs.SpelledParts.{one_apart}

none_apart : AreApart (λ (one : Part). one.name) []
none_apart i j a b e f same = absurd (none-some a e)

pub no_parts : (parts : List Part) → parts ≡ [] → AreParts parts
no_parts parts none = subst AreParts (sym none) (record { each = All-nil IsPart; few = omega arith; distinct = none_apart })

-- one part more, whose name is new
pub more_parts : (parts these more : List Part) (part : Part) (name : List ℕ) → AreParts parts → IsPart part → length parts < 8 → these ≡ parts → name ≡ part.name
    → All (λ (one : Part). one.name ≡ name → ⊥) these → more ≡ parts ++ part ∷ [] → AreParts more
more_parts parts these more part name are is few read named new all =
    let apart : (i j : ℕ) (a b : Part) → slice_get parts i ≡ Some a → slice_get (part ∷ []) j ≡ Some b → a.name ≡ b.name → ⊥ = λ i j a b e f same. clash i a j b e f same in
    subst AreParts (sym all) (record {
      each = All-append IsPart parts (part ∷ []) are.each (All-cons IsPart part [] is (All-nil IsPart));
      few = omega (arith, few, length-append parts (part ∷ []));
      distinct = apart_append (λ (one : Part). one.name) parts (part ∷ []) are.distinct (one_apart part) apart;
    })
  where
    here : All (λ (one : Part). one.name ≡ part.name → ⊥) parts
    here = subst (λ (ps : List Part). All (λ (one : Part). one.name ≡ part.name → ⊥) ps) read (subst (λ n. All (λ (one : Part). one.name ≡ n → ⊥) these) named new)

    clash : (i : ℕ) (a : Part) (j : ℕ) (b : Part) → slice_get parts i ≡ Some a → slice_get (part ∷ []) j ≡ Some b → a.name ≡ b.name → ⊥
    clash i a zero b e f same = all_get (λ (one : Part). one.name ≡ part.name → ⊥) parts i a here e (subst (λ (x : Part). a.name ≡ x.name) (sym (same_Some part b f)) same)
    clash i a (suc j) b e f same = none-some b f
