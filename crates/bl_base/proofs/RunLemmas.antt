-- Runs of one machine, and of two machines that keep step.
use Rattle.std.proofs.Common.{◌≡◌, ℕ, zero, suc, ◌+◌, ◌*◌, ◌≤◌, refl, sym, ap, ◌∙◌, subst, arith}
use Rattle.bl_base.specs.Runs.{Outcome, Next, goes, ends, stuck, StepsTo, EndsAfter, last, more}

-- what a step that isn't stuck gives: one outcome, or one configuration
abbrev pub IsEnd : {C : Type 0} → Next C → Outcome → Type 0
IsEnd (goes d) o = ⊥
IsEnd (ends p) o = p ≡ o
IsEnd stuck o = ⊥

abbrev pub IsNext : {C : Type 0} → Next C → C → Type 0
IsNext (goes e) d = e ≡ d
IsNext (ends p) d = ⊥
IsNext stuck d = ⊥

module _ {C : Type 0} (step : C → Next C) where
  pub one_end : (c : C) (o p : Outcome) → step c ≡ ends o → step c ≡ ends p → o ≡ p
  one_end c o p e f = subst (λ x. IsEnd x p) (sym f ∙ e) refl

  pub one_next : (c d e : C) → step c ≡ goes d → step c ≡ goes e → d ≡ e
  one_next c d e f g = subst (λ x. IsNext x e) (sym g ∙ f) refl

  pub not_both : (c d : C) (o : Outcome) → step c ≡ goes d → step c ≡ ends o → ⊥
  not_both c d o f g = subst (λ x. IsNext x d) (sym f ∙ g) refl

  -- a run is one of the configurations that it starts from
  pub run_at : (n : ℕ) (c d : C) (o : Outcome) → d ≡ c → EndsAfter step n c o → EndsAfter step n d o
  run_at n c d o e r = subst (λ x. EndsAfter step n x o) (sym e) r

  pub run_steps : (m n : ℕ) (c : C) (o : Outcome) → m ≡ n → EndsAfter step m c o → EndsAfter step n c o
  run_steps m n c o e r = subst (λ k. EndsAfter step k c o) e r

  -- a run takes a step
  pub run_pos : (n : ℕ) (c : C) (o : Outcome) → EndsAfter step n c o → 1 ≤ n
  run_pos n c o (last _ _ e) = omega arith
  run_pos n c o (more k _ d _ e r) = omega arith

  -- after the first step of a run
  pub run_rest : (n : ℕ) (c d : C) (o : Outcome) → step c ≡ goes d → EndsAfter step n c o → (k : ℕ) × (n ≡ suc k) × EndsAfter step k d o
  run_rest n c d o g (last _ _ e) = absurd (not_both c d o g e)
  run_rest n c d o g (more k _ e _ f r) = (k, refl, run_at k e d o (one_next c d e g f) r)

  -- the end of a run is one
  pub run_unique : (m n : ℕ) (c : C) (o p : Outcome) → EndsAfter step m c o → EndsAfter step n c p → (m ≡ n) × (o ≡ p)
  run_unique m n c o p (last _ _ e) (last _ _ f) = (refl, one_end c o p e f)
  run_unique m n c o p (last _ _ e) (more k _ d _ f r) = absurd (not_both c d o f e)
  run_unique m n c o p (more k _ d _ f r) s =
      let t = run_rest n c d p f s in
      let u = run_unique k t.0 d o p r t.2 in
      (ap suc u.0 ∙ sym t.1, u.1)

  -- ways compose
  pub comes_then : (j k : ℕ) (c d e : C) → StepsTo step j c d → StepsTo step k d e → StepsTo step (j + k) c e
  comes_then zero k c d e h i =
      let same : k ≡ 0 + k = omega arith in
      subst (λ n. StepsTo step n c e) same (subst (λ x. StepsTo step k x e) (sym h) i)
  comes_then (suc j) k c d e h i =
      let same : suc (j + k) ≡ suc j + k = omega arith in
      subst (λ n. StepsTo step n c e) same (h.0, h.1, comes_then j k h.0 d e h.2 i)

  pub comes_to_end : (j m : ℕ) (c d : C) (o : Outcome) → StepsTo step j c d → EndsAfter step m d o → EndsAfter step (j + m) c o
  comes_to_end zero m c d o h r = run_steps m (0 + m) c o (omega arith) (run_at m d c o h r)
  comes_to_end (suc j) m c d o h r = run_steps (suc (j + m)) (suc j + m) c o (omega arith) (more (j + m) c h.0 o h.1 (comes_to_end j m h.0 d o h.2 r))

  -- what is left of a run after a way
  pub run_after : (j m : ℕ) (c d : C) (o : Outcome) → StepsTo step j c d → EndsAfter step m c o → (k : ℕ) × (m ≡ j + k) × EndsAfter step k d o
  run_after zero m c d o h r = (m, omega arith, run_at m c d o (sym h) r)
  run_after (suc j) m c d o h r =
      let t = run_rest m c h.0 o h.1 r in
      let u = run_after j t.0 h.0 d o h.2 t.2 in
      (u.0, omega (arith, t.1, u.1), u.2)

-- two machines, where each step of the first from a configuration that matches is so many steps of the
-- second, one at least and the bound at most, to one that matches again, or both end alike
module _ {C S : Type 0} (source : C → Next C) (target : S → Next S) (bound : ℕ) (Matches : C → S → Type 0) where
  -- what the second machine does from there where the first one steps so
  abbrev pub Follows : Next C → S → Type 0
  Follows (goes d) s = (j : ℕ) × (t : S) × (1 ≤ j) × (j ≤ bound) × StepsTo target j s t × Matches d t
  Follows (ends o) s = (j : ℕ) × (1 ≤ j) × (j ≤ bound) × EndsAfter target j s o
  Follows stuck s = ⊥

  abbrev pub Simulates : Type 0
  Simulates = (c : C) (s : S) → Matches c s → Follows (source c) s

  module _ (simulates : Simulates) where
    follows_end : (c : C) (s : S) (o : Outcome) → source c ≡ ends o → Matches c s → Follows (ends o) s
    follows_end c s o e h = subst (λ x. Follows x s) e (simulates c s h)

    follows_step : (c d : C) (s : S) → source c ≡ goes d → Matches c s → Follows (goes d) s
    follows_step c d s e h = subst (λ x. Follows x s) e (simulates c s h)

    -- the second machine ends as the first one does
    pub forward : (n : ℕ) (c : C) (s : S) (o : Outcome) → Matches c s → EndsAfter source n c o → (m : ℕ) × EndsAfter target m s o × (n ≤ m) × (m ≤ bound * n)
    forward n c s o h (last _ _ e) =
        let f = follows_end c s o e h in
        (f.0, f.3, f.1, omega (arith, f.2))
    forward n c s o h (more k _ d _ e r) =
        let f = follows_step c d s e h in
        let i = forward k d f.1 o f.5 r in
        (f.0 + i.0, comes_to_end target f.0 i.0 s f.1 o f.4 i.1, omega (arith, f.2, i.2), omega (arith, f.3, i.3))

    -- the first machine ends as the second one does: by its next step, with at most that many steps left
    abbrev Back : C → S → Outcome → ℕ → Type 0
    Back c s o m = (n : ℕ) × EndsAfter source n c o × (n ≤ m) × (m ≤ bound * n)

    back_by : (c : C) (s : S) (o : Outcome) (m : ℕ) (next : Next C) → source c ≡ next → Follows next s → EndsAfter target m s o → ((d : C) (t : S) (k : ℕ) → suc k ≤ m → Matches d t → EndsAfter target k t o → Back d t o k) → Back c s o m
    back_by c s o m (goes d) e f r back =
        let u = run_after target f.0 m s f.1 o f.4 r in
        let b = back d f.1 u.0 (omega (arith, u.1, f.2)) f.5 u.2 in
        (suc b.0, more b.0 c d o e b.1, omega (arith, u.1, f.2, b.2), omega (arith, u.1, f.3, b.3))
    back_by c s o m (ends p) e f r back =
        let u = run_unique target f.0 m s p o f.3 r in
        (1, last c o (e ∙ ap ends u.1), omega (arith, f.1, u.0), omega (arith, f.2, u.0))
    back_by c s o m stuck e f r back = absurd f

    back_within : (fuel m : ℕ) (c : C) (s : S) (o : Outcome) → m ≤ fuel → Matches c s → EndsAfter target m s o → Back c s o m
    back_within zero m c s o le h r = absurd (omega (arith, le, run_pos target m s o r))
    back_within (suc fuel) m c s o le h r =
        back_by c s o m (source c) refl (simulates c s h) r (λ d t k lt i q. back_within fuel k d t o (omega (arith, le, lt)) i q)

    pub backward : (m : ℕ) (c : C) (s : S) (o : Outcome) → Matches c s → EndsAfter target m s o → (n : ℕ) × EndsAfter source n c o × (n ≤ m) × (m ≤ bound * n)
    backward m c s o h r = back_within m m c s o (omega arith) h r
