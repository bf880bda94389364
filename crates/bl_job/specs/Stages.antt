-- Stages of work: each passes a value on, or refuses it.
use Rattle.std.specs.Prelude.{◌≡◌, ◌⊎◌, List, [], ◌∷◌}
use Rattle.bl_job.specs.Refusals.{Refusal}

-- what a stage makes of a value, and why it refuses one
pub record Stage (A B : Type 0) : Type 1 where
  pub Passes : A → B → Type 0
  pub Refuses : A → Refusal → Type 0

-- the laws of a stage: it makes one thing of a value, or refuses it for one reason, and never both
pub record IsLawfulStage {A B : Type 0} (stage : Stage A B) : Type 0 where
  pub one_result : (a : A) (b c : B) → stage.Passes a b → stage.Passes a c → b ≡ c
  pub one_refusal : (a : A) (r s : Refusal) → stage.Refuses a r → stage.Refuses a s → r ≡ s
  pub not_both : (a : A) (b : B) (r : Refusal) → stage.Passes a b → stage.Refuses a r → ⊥

-- something is made of each value of which enough is given, or it is refused: it can't be that neither is so
pub record IsTotalStage {A B : Type 0} (Given : A → Type 0) (stage : Stage A B) : Type 0 where
  pub always : (a : A) → Given a → ((b : B) → stage.Passes a b → ⊥) → ((refusal : Refusal) → stage.Refuses a refusal → ⊥) → ⊥

-- nothing needs to be given
abbrev pub Anything : {A : Type 0} → A → Type 0
Anything a = Unit {0}

-- one stage, and then another one on what it passes on
pub data ThenRefuses {A B C : Type 0} (first : Stage A B) (second : Stage B C) (a : A) (refusal : Refusal) : Type 0 where
  at_first : first.Refuses a refusal → ThenRefuses first second a refusal
  at_second : (b : B) → first.Passes a b → second.Refuses b refusal → ThenRefuses first second a refusal

abbrev pub chain : {A B C : Type 0} → Stage A B → Stage B C → Stage A C
chain {B = B} first second = record { Passes = λ a c. (b : B) × first.Passes a b × second.Passes b c; Refuses = ThenRefuses first second }

-- a stage on a part of a value; what it makes is joined to the value
abbrev pub beside : {A B C D : Type 0} → (C → A) → Stage A B → (C → B → D) → Stage C D
beside {B = B} part stage join = record {
  Passes = λ c d. (b : B) × stage.Passes (part c) b × (d ≡ join c b);
  Refuses = λ c. stage.Refuses (part c);
}

-- a stage on each of a list: all pass, or the first that doesn't is refused
abbrev pub AllPass : {A B : Type 0} → Stage A B → List A → List B → Type 0
AllPass stage [] [] = Unit {0}
AllPass stage [] (y ∷ ys) = ⊥
AllPass stage (x ∷ xs) [] = ⊥
AllPass stage (x ∷ xs) (y ∷ ys) = stage.Passes x y × AllPass stage xs ys

abbrev pub FirstRefused : {A B : Type 0} → Stage A B → List A → Refusal → Type 0
FirstRefused stage [] refusal = ⊥
FirstRefused {B = B} stage (x ∷ xs) refusal = stage.Refuses x refusal ⊎ ((y : B) × stage.Passes x y × FirstRefused stage xs refusal)

abbrev pub each : {A B : Type 0} → Stage A B → Stage (List A) (List B)
each stage = record { Passes = AllPass stage; Refuses = FirstRefused stage }
