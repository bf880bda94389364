-- A rising list is determined by what it contains.
use Rattle.std.proofs.Common.{◌≡◌, ℕ, zero, suc, ◌<◌, List, [], ◌∷◌, sym, subst, refl, ap, ◌∙◌, arith, inl, inr}
use Rattle.std.specs.List.{AllPairs, Contains}
use Rattle.bl_base.specs.declared.number.Pos.{Pos}
use Rattle.bl_base.proofs.Members.{first_in, later_in, in_cases, none_in}
use Rattle.bl_program.specs.declared.definitions.ProgramParts.{ProgramParts as Program}
use Rattle.bl_graph.specs.Graphs.{Precedes, AreUses, IsGraph}
use Rattle.bl_graph.specs.declared.facts.Use.{Use}
use Rattle.bl_graph.specs.declared.facts.Graph.{Graph}

module _ {X : Type 0} (R : X → X → Type 0) (never : (x y : X) → R x y → R y x → ⊥) where
  head : (x : X) (xs : List X) → AllPairs R (x ∷ xs) → (y : X) → Contains xs y → R x y
  head x xs rise y here = subst (R x) here.2 (rise zero (suc here.0) y (omega arith) (let lt = here.1 in omega arith))

  tail : (x : X) (xs : List X) → AllPairs R (x ∷ xs) → AllPairs R xs
  tail x xs rise = λ i j d lt low. rise (suc i) (suc j) d (omega arith) (omega arith)

  firsts_same : (x y : X) (xs ys : List X) → AllPairs R (x ∷ xs) → AllPairs R (y ∷ ys) → Contains (y ∷ ys) x → Contains (x ∷ xs) y → x ≡ y
  firsts_same x y xs ys one other there here =
      elim (in_cases y x ys there) as (λ _. x ≡ y) [
        | inl same ↦ sym same
        | inr behind ↦ elim (in_cases x y xs here) as (λ _. x ≡ y) [
          | inl same ↦ same
          | inr after ↦ absurd (never x y (head x xs one y after) (head y ys other x behind))
        ]
      ]

  -- what is in the rest of the one is in the rest of the other
  rest_in : (x y z : X) (xs ys : List X) → AllPairs R (x ∷ xs) → x ≡ y → Contains xs z → Contains (y ∷ ys) z → Contains ys z
  rest_in x y z xs ys one same here there =
      elim (in_cases y z ys there) as (λ _. Contains ys z) [
        | inl first ↦ let above = head x xs one z here in let self : R x x = subst (R x) (sym (same ∙ first)) above in absurd (never x x self self)
        | inr behind ↦ behind
      ]

  pub rising_same : (xs ys : List X) → AllPairs R xs → AllPairs R ys → ((x : X) → Contains xs x → Contains ys x) → ((x : X) → Contains ys x → Contains xs x) → xs ≡ ys
  rising_same [] [] one other into back = refl
  rising_same [] (y ∷ ys) one other into back = absurd (none_in y (back y (first_in y ys)))
  rising_same (x ∷ xs) [] one other into back = absurd (none_in x (into x (first_in x xs)))
  rising_same (x ∷ xs) (y ∷ ys) one other into back =
      let same : x ≡ y = firsts_same x y xs ys one other (into x (first_in x xs)) (back y (first_in y ys)) in
      let rest : xs ≡ ys = rising_same xs ys (tail x xs one) (tail y ys other)
      (λ z here. rest_in x y z xs ys one same here (into z (later_in x z xs here)))
      (λ z there. rest_in y x z ys xs other (sym same) there (back z (later_in y z ys there))) in
      subst (λ z. x ∷ xs ≡ z ∷ ys) same (ap (λ l. x ∷ l) rest)

never_both : (one other : Use) → Precedes one other → Precedes other one → ⊥
never_both one other (inl a) (inl b) = omega arith
never_both one other (inl a) (inr b) = let e = b.0 in omega arith
never_both one other (inr a) (inl b) = let e = a.0 in omega arith
never_both one other (inr a) (inr b) = let e = a.1 in let f = b.1 in omega arith

uses_one : (Relates : ℕ → ℕ → Type 0) (one other : List Use) → AreUses Relates one → AreUses Relates other → one ≡ other
uses_one Relates one other a b = rising_same Precedes never_both one other a.rise b.rise
    (λ u here. (b.each u.at.0 u.var.0).1 ((a.each u.at.0 u.var.0).0 here))
    (λ u there. (a.each u.at.0 u.var.0).1 ((b.each u.at.0 u.var.0).0 there))

same : (a b : List Pos) (c d e f g h : List Use) → a ≡ b → c ≡ d → e ≡ f → g ≡ h
    → (let made : Graph = record { loads = a; writes = c; reads = e; sinks = g } in made) ≡ record { loads = b; writes = d; reads = f; sinks = h }
same a b c d e f g h i j k l = cc

pub graph_one : (program : Program) (one other : Graph) → IsGraph program one → IsGraph program other → one ≡ other
graph_one program one other a b =
    let loads : one.loads ≡ other.loads = rising_same (λ (p q : Pos). p.0 < q.0) (λ p q r s. omega arith) one.loads other.loads a.loads_rise b.loads_rise
    (λ p here. (b.loads p.0).1 ((a.loads p.0).0 here)) (λ p there. (a.loads p.0).1 ((b.loads p.0).0 there)) in
    let writes : one.writes ≡ other.writes = uses_one _ one.writes other.writes a.writes b.writes in
    let reads : one.reads ≡ other.reads = uses_one _ one.reads other.reads a.reads b.reads in
    let sinks : one.sinks ≡ other.sinks = uses_one _ one.sinks other.sinks a.sinks b.sinks in
    same one.loads other.loads one.writes other.writes one.reads other.reads one.sinks other.sinks loads writes reads sinks
