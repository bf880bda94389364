-- Two plain runs keep step.
use Rattle.std.proofs.Common.{◌≡◌, ℕ, zero, suc, Bool, Some, None, refl, sym, ap, ◌∙◌, subst, arith}
use Rattle.std.specs.Prelude.{not}
use Rattle.bl_base.proofs.RunLemmas.{one_next, run_after, run_pos}
use Rattle.bl_base.specs.Runs.{Outcome, Next, goes, ends, stuck, HasStep, StepsTo, EndsAfter}
use Rattle.bl_program.specs.Programs.{IsProgram}
use Rattle.bl_program.specs.Rules.{IsWellFormed}
use Rattle.bl_program.specs.Steps.{Plain, plain_step}
use Rattle.bl_program.specs.declared.definitions.ProgramParts.{ProgramParts as Program}
use Rattle.bl_graph.specs.Labels.{KeepsLabelRules}
use Rattle.bl_seq.proofs.OwnSteps.{Reached, has_step}
use Rattle.bl_rob.specs.Machines.{at_position, before, outcome_by}
use Rattle.bl_rob.specs.declared.directive.End.{End}
use Rattle.bl_rob.specs.declared.directive.End.TheVariants as ending
use Rattle.bl_rob.proofs.FetchedRuns.{config_of, state_of, Follows, follows}
use Rattle.bl_rob.proofs.PlainTracks.{Config, next, IsThere}
use Rattle.bl_sct.specs.Lockstep.{StandAlike, EndAlike, KeepStep, go, end}
use Rattle.bl_sct.proofs.StepAgreement.{Pair, pair_next}

-- ---- runs of one machine

module _ {C : Type 0} (step : C → Next C) where
  pub comes_same : (n : ℕ) (c d e : C) → StepsTo step n c d → StepsTo step n c e → d ≡ e
  comes_same zero c d e h k = sym h ∙ k
  comes_same (suc n) c d e h k = comes_same n h.0 d e h.2 (subst (λ x. StepsTo step n x e) (one_next step c k.0 h.0 k.1 h.1) k.2)

  -- a run that goes on hasn't ended
  pub not_ended : (n : ℕ) (c d : C) (o : Outcome) → StepsTo step n c d → EndsAfter step n c o → ⊥
  not_ended n c d o h r =
      let rest = run_after step n n c d o h r in
      let some = run_pos step rest.0 d o rest.2 in
      let same = rest.1 in
      omega arith

-- ---- one step

module _ (program : Program) (facts : IsProgram program) (rules : IsWellFormed program) (labelling : ℕ → Bool) (ok : KeepsLabelRules program labelling) where
  abbrev shown : ℕ → Bool
  shown x = not (labelling x)

  -- states of both runs
  abbrev pub Twins : Plain → Plain → Type 0
  Twins s t = Pair program shown (config_of s) (config_of t)

  pub alike : (s t : Plain) → Twins s t → StandAlike program labelling s t
  alike s t p = record {
    position = ap (λ f. f.position) p.agrees.front;
    chain = ap (λ f. f.chain) p.agrees.front;
    registers = p.agrees.registers;
    bytes = p.agrees.bytes;
  }

  pub twins : (s t : Plain) → StandAlike program labelling s t → Reached program s → Reached program t → Twins s t
  twins s t h r q = record {
    agrees = record {
      front = ap (λ p. at_position p s.chain) h.position ∙ ap (λ chain. at_position t.position chain) h.chain;
      registers = h.registers;
      bytes = h.bytes;
    };
    one = λ _. r;
    other = λ _. q;
  }

  abbrev BothNext : Next Plain → Next Plain → Type 0
  BothNext (goes s) (goes t) = Twins s t
  BothNext (goes s) (ends o) = ⊥
  BothNext (goes s) stuck = ⊥
  BothNext (ends o) (goes t) = ⊥
  BothNext (ends o) (ends p) = EndAlike o p
  BothNext (ends o) stuck = ⊥
  BothNext stuck y = ⊥

  ends_alike : (c d : Config) (e : End) → EndAlike (outcome_by program (state_of c) e) (outcome_by program (state_of d) e)
  ends_alike c d ending.Returned = tt
  ends_alike c d (ending.Trapped kind) = refl

  same_end : (c d : Config) (a b : End) → c.front ≡ d.front → c.front.end ≡ Some a → d.front.end ≡ Some b → a ≡ b
  same_end c d a b f h k = let g : c.front.end ≡ d.front.end = ap (λ x. x.end) f in cc

  both_next : (s t : Plain) (A B : Type 0) (c d : Config) (x y : Next Plain) → Pair program shown c d → HasStep x → HasStep y
      → Follows program s c A x → Follows program t d B y → BothNext x y
  both_next s t A B c d (goes s') (goes t') p h k f g = subst (λ u. Pair program shown u (config_of t')) f (subst (λ v. Pair program shown c v) g p)
  both_next s t A B c d (goes s') (ends o) p h k f g =
      let front = p.agrees.front in
      let one : c.front.end ≡ None = ap (λ (u : Config). u.front.end) f in
      let other = g.front in
      cc
  both_next s t A B c d (ends o) (goes t') p h k f g =
      let front = p.agrees.front in
      let one = f.front in
      let other : d.front.end ≡ None = ap (λ (u : Config). u.front.end) g in
      cc
  both_next s t A B c d (ends o) (ends q) p h k f g =
      subst (λ u. EndAlike u q) (sym f.outcome_is)
      (subst (λ v. EndAlike (outcome_by program (state_of c) f.end) v) (sym g.outcome_is)
      (subst (λ e. EndAlike (outcome_by program (state_of c) f.end) (outcome_by program (state_of d) e)) (same_end c d f.end g.end p.agrees.front f.front g.front)
      (ends_alike c d f.end)))
  both_next s t A B c d (goes s') stuck p h k f g = absurd k
  both_next s t A B c d (ends o) stuck p h k f g = absurd k
  both_next s t A B c d stuck y p h k f g = absurd h

  both_step : (s t : Plain) → Twins s t → BothNext (plain_step program s) (plain_step program t)
  both_step s t p =
      both_next s t (IsThere (before program (config_of s).front)) (IsThere (before program (config_of t).front)) (next program (config_of s)) (next program (config_of t))
      (plain_step program s) (plain_step program t) (pair_next program facts rules labelling ok (config_of s) (config_of t) p)
      (has_step program facts rules s (p.one refl)) (has_step program facts rules t (p.other refl)) (follows program s) (follows program t)

  -- ---- all steps

  later : (n : ℕ) (s t s' t' : Plain) → plain_step program s ≡ goes s' → plain_step program t ≡ goes t' → KeepStep program labelling n s' t'
      → KeepStep program labelling (suc n) s t
  later n s t s' t' e f (go one other h k a) = go one other (s', e, h) (t', f, k) a
  later n s t s' t' e f (end before one other first second lt h p k q a b) =
      end (suc before) one other first second (omega arith) (s', e, h) p (t', f, k) q a b

  keep_by : (n : ℕ) (s t : Plain) (x y : Next Plain) → plain_step program s ≡ x → plain_step program t ≡ y → BothNext x y → StandAlike program labelling s t
      → ((s' t' : Plain) → Twins s' t' → KeepStep program labelling n s' t') → KeepStep program labelling (suc n) s t
  keep_by n s t (goes s') (goes t') e f b a rest = later n s t s' t' e f (rest s' t' b)
  keep_by n s t (ends o) (ends p) e f b a rest = end 0 s t o p (omega arith) refl e refl f a b
  keep_by n s t (goes s') (ends p) e f b a rest = absurd b
  keep_by n s t (goes s') stuck e f b a rest = absurd b
  keep_by n s t (ends o) (goes t') e f b a rest = absurd b
  keep_by n s t (ends o) stuck e f b a rest = absurd b
  keep_by n s t stuck y e f b a rest = absurd b

  pub keep : (n : ℕ) (s t : Plain) → Twins s t → KeepStep program labelling n s t
  keep zero s t p = go s t refl refl (alike s t p)
  keep (suc n) s t p =
      keep_by n s t (plain_step program s) (plain_step program t) refl refl (both_step s t p) (alike s t p) (λ s' t' q. keep n s' t' q)

  -- where one run has come, the other has
  pub record Beside (n : ℕ) (t s' : Plain) : Type 0 where
    pub state : Plain
    pub comes : StepsTo (plain_step program) n t state
    pub twins : Twins s' state

  beside_by : (n : ℕ) (t s' u : Plain) (y : Next Plain) → plain_step program t ≡ y → BothNext (goes s') y → ((t' : Plain) → Twins s' t' → Beside n t' u) → Beside (suc n) t u
  beside_by n t s' u (goes t') f b rest =
      let r = rest t' b in
      record { state = r.state; comes = (t', f, r.comes); twins = r.twins }
  beside_by n t s' u (ends p) f b rest = absurd b
  beside_by n t s' u stuck f b rest = absurd b

  pub both_come : (n : ℕ) (s t u : Plain) → Twins s t → StepsTo (plain_step program) n s u → Beside n t u
  both_come zero s t u p h = record { state = t; comes = refl; twins = subst (λ x. Twins x t) h p }
  both_come (suc n) s t u p h =
      beside_by n t h.0 u (plain_step program t) refl (subst (λ x. BothNext x (plain_step program t)) h.1 (both_step s t p))
      (λ t' q. both_come n h.0 t' u q h.2)
