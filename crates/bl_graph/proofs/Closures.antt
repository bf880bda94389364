-- The least set of variables that holds some roots and is closed under what some sites make of what they read: it is decided.
use Rattle.std.proofs.Common.{◌≡◌, ◌⊎◌, inl, inr, ℕ, zero, suc, ◌<◌, refl, subst, arith}
use Rattle.std.proofs.lemmas.Bool.{cases_eq}
use Rattle.bl_base.proofs.Sums.{last_or_before}
use Rattle.bl_base.proofs.Decisions.{Decided, decided_below, decided_either, decided_three}
use Rattle.bl_program.specs.Sites.{Reads, Writes}
use Rattle.bl_program.specs.declared.definitions.ProgramParts.{ProgramParts as Program}
use Rattle.bl_graph.specs.Ranges.{commands}
use Rattle.bl_graph.proofs.CommandLists.{decided_read, decided_write, stands_below}

module _ (program : Program) (Hands : ℕ → Type 0) (hands : (s : ℕ) → Decided (Hands s)) where
  -- the one variable comes to the other by sites below a position that hand it on
  abbrev Comes : ℕ → ℕ → ℕ → Type 0
  Comes zero a b = a ≡ b
  Comes (suc k) a b = Comes k a b ⊎ (Hands k × ((x : ℕ) × Reads program k x × Comes k a x) × ((y : ℕ) × Writes program k y × Comes k y b))

  decided_comes : (n a b : ℕ) → Decided (Comes n a b)
  decided_comes zero a b = cases_eq a b
  decided_comes (suc k) a b =
      decided_either (decided_comes k a b) (decided_three (hands k) (decided_read program k (λ x. Comes k a x) (λ x. decided_comes k a x))
      (decided_write program k (λ y. Comes k y b) (λ y. decided_comes k y b)))

  comes_itself : (n a : ℕ) → Comes n a a
  comes_itself zero a = refl
  comes_itself (suc n) a = inl (comes_itself n a)

  -- a site hands on what comes to it
  comes_on : (n a k x y : ℕ) → k < n → Reads program k x → Writes program k y → Hands k → Comes n a x → Comes n a y
  comes_on zero a k x y lt reads writes may h = absurd (omega arith)
  comes_on (suc n) a k x y lt reads writes may h =
      elim (last_or_before n k lt) as (λ _. Comes (suc n) a y) [
        | inl same ↦
            let read : (z : ℕ) × Reads program n z × Comes n a z =
            elim h as (λ _. (z : ℕ) × Reads program n z × Comes n a z) [ inl q ↦ (x, subst (λ j. Reads program j x) same reads, q) | inr q ↦ q.1 ] in
            inr (subst Hands same may, read, (y, subst (λ j. Writes program j y) same writes, comes_itself n y))
        | inr less ↦
            elim h as (λ _. Comes (suc n) a y) [
              | inl q ↦ inl (comes_on n a k x y less reads writes may q)
              | inr q ↦ inr (q.0, q.1, (q.2.0, q.2.1, comes_on n q.2.0 k x y less reads writes may q.2.2))
            ]
      ]

  -- what comes of something has each property that the sites hand on
  comes_least : (P : ℕ → Type 0) → ((s x y : ℕ) → Reads program s x → Writes program s y → Hands s → P x → P y) → (n a b : ℕ) → P a → Comes n a b → P b
  comes_least P on zero a b here e = subst P e here
  comes_least P on (suc n) a b here (inl q) = comes_least P on n a b here q
  comes_least P on (suc n) a b here (inr q) =
      comes_least P on n q.2.0 b (on n q.1.0 q.2.0 q.1.1 q.2.1 q.0 (comes_least P on n a q.1.0 here q.1.2)) q.2.2

  module _ (Root : ℕ → Type 0) (root : (x : ℕ) → Decided (Root x)) where
    -- a root, or what comes of what a site makes of one
    abbrev pub Reached : ℕ → Type 0
    Reached x = Root x ⊎ ((s : ℕ) × (s < commands program)
        × (Hands s × ((r : ℕ) × Reads program s r × Root r) × ((y : ℕ) × Writes program s y × Comes (commands program) y x)))

    pub decided_reached : (x : ℕ) → Decided (Reached x)
    decided_reached x =
        decided_either (root x) (decided_below (commands program) (λ s. Hands s × ((r : ℕ) × Reads program s r × Root r) × ((y : ℕ) × Writes program s y × Comes (commands program) y x)) (λ s.
        decided_three (hands s) (decided_read program s Root root)
        (decided_write program s (λ y. Comes (commands program) y x) (λ y. decided_comes (commands program) y x))))

    pub reached_on : (s x y : ℕ) → Reads program s x → Writes program s y → Hands s → Reached x → Reached y
    reached_on s x y reads writes may (inl r) = inr (s, stands_below program s _ reads, (may, (x, reads, r), (y, writes, comes_itself (commands program) y)))
    reached_on s x y reads writes may (inr q) =
        inr (q.0, q.1, (q.2.0, q.2.1, (q.2.2.0, q.2.2.1, comes_on (commands program) q.2.2.0 s x y (stands_below program s _ reads) reads writes may q.2.2.2)))

    pub reached_least : (P : ℕ → Type 0) → ((x : ℕ) → Root x → P x) → ((s x y : ℕ) → Reads program s x → Writes program s y → Hands s → P x → P y) → (x : ℕ) → Reached x → P x
    reached_least P roots on x (inl r) = roots x r
    reached_least P roots on x (inr q) =
        comes_least P on (commands program) q.2.2.0 x (on q.0 q.2.1.0 q.2.2.0 q.2.1.1 q.2.2.1 q.2.0 (roots q.2.1.0 q.2.1.2)) q.2.2.2
