-- Stages that keep the laws and always answer, one after another, on a part of a value and on each of a list.
use Rattle.std.proofs.Common.{◌≡◌, List, [], ◌∷◌, ◌++◌, Some, None, append-nil, append_assoc, refl, inl, inr, subst, sym, ap, ◌∙◌}
use Rattle.std.specs.List.{All}
use Rattle.std.proofs.lemmas.List.Elements.{All-head, All-tail}
use Rattle.bl_job.specs.Refusals.{Refusal}
use Rattle.bl_job.specs.WorkAnswers.{IsTold, Tells, refusal_in}
use Rattle.bl_job.specs.declared.refusal.WorkError.{WorkError}
use Rattle.bl_job.specs.declared.refusal.WorkError.TheVariants as error
use Rattle.bl_job.specs.Stages.{AllPass, FirstRefused, IsLawfulStage, IsTotalStage, Stage, ThenRefuses, at_first, at_second, beside, chain, each}

-- what holds of a refusal leads to what holds of it elsewhere
pub tells_on : (P Q : Refusal → Type 0) → ((refusal : Refusal) → P refusal → Q refusal) → (e : WorkError) → Tells P e → Tells Q e
tells_on P Q f (error.Refused refusal) p = f (refusal_in refusal) p
tells_on P Q f error.Memory p = tt

-- what holds of a refusal holds of an error that is told to be it, and anything of one that is want of memory
pub told_as : (refusal : Refusal) (P : Refusal → Type 0) → P refusal → (e : WorkError) → IsTold (Some refusal) e → Tells P e
told_as refusal P p = tells_on (λ told. told ≡ refusal) P (λ told is. subst P (sym is) p)

pub told_memory : (P : Refusal → Type 0) (e : WorkError) → IsTold None e → Tells P e
told_memory P e told = subst (Tells P) (sym told) tt

module _ {A B C : Type 0} (first : Stage A B) (second : Stage B C) (f : IsLawfulStage first) (s : IsLawfulStage second) where
  chain_result : (a : A) (b c : C) → (chain first second).Passes a b → (chain first second).Passes a c → b ≡ c
  chain_result a b c p q = s.one_result q.0 b c (subst (λ m. second.Passes m b) (f.one_result a p.0 q.0 p.1 q.1) p.2) q.2

  chain_refusal : (a : A) (r t : Refusal) → ThenRefuses first second a r → ThenRefuses first second a t → r ≡ t
  chain_refusal a r t (at_first x) (at_first y) = f.one_refusal a r t x y
  chain_refusal a r t (at_first x) (at_second m p y) = absurd (f.not_both a m r p x)
  chain_refusal a r t (at_second m p x) (at_first y) = absurd (f.not_both a m t p y)
  chain_refusal a r t (at_second m p x) (at_second n q y) = s.one_refusal n r t (subst (λ k. second.Refuses k r) (f.one_result a m n p q) x) y

  chain_not_both : (a : A) (c : C) (r : Refusal) → (chain first second).Passes a c → ThenRefuses first second a r → ⊥
  chain_not_both a c r p (at_first x) = f.not_both a p.0 r p.1 x
  chain_not_both a c r p (at_second m q y) = s.not_both m c r (subst (λ k. second.Passes k c) (f.one_result a p.0 m p.1 q) p.2) y

  pub chain_lawful : IsLawfulStage (chain first second)
  chain_lawful = record { one_result = chain_result; one_refusal = chain_refusal; not_both = chain_not_both }

pub chain_total : {A B C : Type 0} (Given : A → Type 0) (Known : B → Type 0) (first : Stage A B) (second : Stage B C) → IsTotalStage Given first → IsTotalStage Known second
    → ((a : A) (b : B) → Given a → first.Passes a b → Known b) → IsTotalStage Given (chain first second)
chain_total Given Known first second f s known = record {
  always = λ a given made refused.
      f.always a given (λ b p. s.always b (known a b given p) (λ c q. made c (b, p, q)) (λ r q. refused r (at_second b p q))) (λ r p. refused r (at_first p));
}

module _ {A B C D : Type 0} (part : C → A) (stage : Stage A B) (join : C → B → D) where
  pub beside_lawful : IsLawfulStage stage → IsLawfulStage (beside part stage join)
  beside_lawful s = record {
    one_result = λ c d e p q. p.2 ∙ ap (join c) (s.one_result (part c) p.0 q.0 p.1 q.1) ∙ sym q.2;
    one_refusal = λ c. s.one_refusal (part c);
    not_both = λ c d r p. s.not_both (part c) p.0 r p.1;
  }

  pub beside_total : (Given : A → Type 0) → IsTotalStage Given stage → IsTotalStage (λ c. Given (part c)) (beside part stage join)
  beside_total Given s = record { always = λ c given made refused. s.always (part c) given (λ b p. made (join c b) (b, p, refl)) refused }

module _ {A B : Type 0} (stage : Stage A B) (s : IsLawfulStage stage) where
  each_result : (xs : List A) (ys zs : List B) → AllPass stage xs ys → AllPass stage xs zs → ys ≡ zs
  each_result [] [] [] p q = refl
  each_result [] [] (z ∷ zs) p q = absurd q
  each_result [] (y ∷ ys) zs p q = absurd p
  each_result (x ∷ xs) [] zs p q = absurd p
  each_result (x ∷ xs) (y ∷ ys) [] p q = absurd q
  each_result (x ∷ xs) (y ∷ ys) (z ∷ zs) p q =
      let first = s.one_result x y z p.0 q.0 in
      let rest = each_result xs ys zs p.1 q.1 in
      λ i. first i ∷ rest i

  each_refusal : (xs : List A) (r t : Refusal) → FirstRefused stage xs r → FirstRefused stage xs t → r ≡ t
  each_refusal [] r t h k = absurd h
  each_refusal (x ∷ xs) r t (inl h) (inl k) = s.one_refusal x r t h k
  each_refusal (x ∷ xs) r t (inl h) (inr k) = absurd (s.not_both x k.0 r k.1 h)
  each_refusal (x ∷ xs) r t (inr h) (inl k) = absurd (s.not_both x h.0 t h.1 k)
  each_refusal (x ∷ xs) r t (inr h) (inr k) = each_refusal xs r t h.2 k.2

  each_not_both : (xs : List A) (ys : List B) (r : Refusal) → AllPass stage xs ys → FirstRefused stage xs r → ⊥
  each_not_both [] ys r p h = h
  each_not_both (x ∷ xs) [] r p h = p
  each_not_both (x ∷ xs) (y ∷ ys) r p (inl h) = s.not_both x y r p.0 h
  each_not_both (x ∷ xs) (y ∷ ys) r p (inr h) = each_not_both xs ys r p.1 h.2

  pub each_lawful : IsLawfulStage (each stage)
  each_lawful = record { one_result = each_result; one_refusal = each_refusal; not_both = each_not_both }

module _ {A B : Type 0} (Given : A → Type 0) (stage : Stage A B) (s : IsTotalStage Given stage) where
  each_always : (xs : List A) → All Given xs → ((ys : List B) → AllPass stage xs ys → ⊥) → ((r : Refusal) → FirstRefused stage xs r → ⊥) → ⊥
  each_always [] given made refused = made [] tt
  each_always (x ∷ xs) given made refused =
      s.always x (All-head Given x xs given)
      (λ y p. each_always xs (All-tail Given x xs given) (λ ys q. made (y ∷ ys) (p, q)) (λ r q. refused r (inr (y, p, q)))) (λ r p. refused r (inl p))

  pub each_total : IsTotalStage (All Given) (each stage)
  each_total = record { always = each_always }

-- a stage on one after another: what is left of the list decides, and what the first ones were passed on as stands before it
module _ {A B : Type 0} (stage : Stage A B) where
  pub record Goes (whole : List A) (done : List B) (rest : List A) : Type 0 where
    pub pass : (ys : List B) → AllPass stage rest ys → AllPass stage whole (done ++ ys)
    pub fail : (refusal : Refusal) → FirstRefused stage rest refusal → FirstRefused stage whole refusal

  pub goes_on : (whole rest : List A) (done : List B) (x : A) (y : B) → Goes whole done (x ∷ rest) → stage.Passes x y → Goes whole (done ++ y ∷ []) rest
  goes_on whole rest done x y g p = record {
    pass = λ ys q. subst (AllPass stage whole) (regrouped done y ys) (g.pass (y ∷ ys) (p, q));
    fail = λ refusal h. g.fail refusal (inr (y, p, h));
  }
    where
      regrouped : (done : List B) (y : B) (ys : List B) → done ++ (y ∷ ys) ≡ (done ++ y ∷ []) ++ ys
      regrouped done y ys = simp append_assoc

  pub goes_refused : (whole rest : List A) (done : List B) (x : A) (refusal : Refusal) → Goes whole done (x ∷ rest) → stage.Refuses x refusal → FirstRefused stage whole refusal
  goes_refused whole rest done x refusal g h = g.fail refusal (inl h)

  pub goes_ends : (whole rest : List A) (done : List B) → rest ≡ [] → Goes whole done rest → AllPass stage whole done
  goes_ends whole rest done none g = subst (AllPass stage whole) (append-nil done) (g.pass [] (subst (λ r. AllPass stage r []) (sym none) tt))
