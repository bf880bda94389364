-- Whether a variable is secret, and what else of secrets is decided.
use Rattle.std.proofs.Common.{◌≡◌, ◌⊎◌, inl, inr, ℕ, suc, ◌<◌, length, Option, Some, None, slice_get, refl, sym, subst, arith}
use Rattle.std.specs.Prelude.{IsSomeAnd, IsTrue, Bool, ◌↔◌}
use Rattle.std.proofs.lemmas.Bool.{cases_eq}
use Rattle.std.proofs.lemmas.Option.{slice_get_within}
use Rattle.bl_base.specs.declared.names.Label.{Label}
use Rattle.bl_base.specs.declared.names.Label.TheVariants as label
use Rattle.bl_base.proofs.Decisions.{Decided, decided_as, decided_below, decided_both, decided_either, decided_some, holds, holds_if, if_holds}
use Rattle.bl_base.proofs.OptionLemmas.{some_with}
use Rattle.bl_program.specs.Layout.{command_at, param}
use Rattle.bl_program.specs.Sites.{Writes}
use Rattle.bl_program.specs.declared.command.Command.{Command}
use Rattle.bl_program.specs.declared.command.Command.TheVariants.{Load, Store}
use Rattle.bl_program.specs.declared.command.Operand.TheVariants.{Var, Const}
use Rattle.bl_program.specs.declared.definitions.ProgramParts.{ProgramParts as Program}
use Rattle.bl_graph.specs.Labels.{Secret, declared, loaded, moved}
use Rattle.bl_graph.specs.Ranges.{commands}
use Rattle.bl_graph.specs.Secrets.{Declares, GivesPublic, IsSecretGlobal, IsSecretMemory, IsSecretParam, LoadsSecret, Stores, TakesSecret}
use Rattle.bl_graph.specs.declared.secret.Origin.{Origin}
use Rattle.bl_graph.specs.declared.secret.Origin.TheVariants.{Parameter, Global, Memory}
use Rattle.bl_graph.proofs.Closures.{Reached, decided_reached, reached_least, reached_on}
use Rattle.bl_graph.proofs.CommandLists.{decided_write, stands_below}
use Rattle.bl_ct.proofs.KnownRanges.{secret_public}

decided_secret_label : (is : Label) → Decided (is ≡ label.Secret)
decided_secret_label label.Secret = inl refl
decided_secret_label label.Public = inr (λ e. secret_public (sym e))

decided_public_label : (is : Label) → Decided (is ≡ label.Public)
decided_public_label label.Secret = inr secret_public
decided_public_label label.Public = inl refl

module _ (program : Program) where
  -- ---- what is declared secret

  -- the variable is a parameter of that function that is declared secret
  abbrev IsParamOf : ℕ → ℕ → Type 0
  IsParamOf x function = (index : ℕ) × (index < suc x) × (IsSecretParam program function index × (param program function index ≡ x))

  as_param_or_global : (x : ℕ) (origin : Origin) → Declares program x origin → ((function : ℕ) × (function < length program.functions) × IsParamOf x function) ⊎ IsSecretGlobal program x
  as_param_or_global x (Parameter function index) h =
      let defined = some_with (slice_get program.functions function) (λ defined. IsSomeAnd (slice_get defined.params index) (λ one. one.label ≡ label.Secret)) h.0 in
      let e = h.1 in
      inl (function, slice_get_within program.functions function defined.0 defined.1, (index, omega arith, h))
  as_param_or_global x (Global number) h = inr (subst (IsSecretGlobal program) h.1 h.0)
  as_param_or_global x (Memory number) h = absurd h

  decided_declared : (x : ℕ) → Decided ((origin : Origin) × Declares program x origin)
  decided_declared x =
      decided_as (λ h. elim h as (λ _. (origin : Origin) × Declares program x origin) [ inl p ↦ (Parameter p.0 p.2.0, p.2.2) | inr is ↦ (Global x, (is, refl)) ])
      (λ h. as_param_or_global x h.0 h.1)
      (decided_either
      (decided_below (length program.functions) (IsParamOf x) (λ function. decided_below (suc x) (λ index. IsSecretParam program function index × (param program function index ≡ x))
      (λ index. decided_both
      (decided_some (λ defined. IsSomeAnd (slice_get defined.params index) (λ one. one.label ≡ label.Secret))
      (λ defined. decided_some (λ one. one.label ≡ label.Secret) (λ one. decided_secret_label one.label) (slice_get defined.params index)) (slice_get program.functions function))
      (cases_eq (param program function index) x))))
      (decided_some (λ global. global.label ≡ label.Secret) (λ global. decided_secret_label global.label) (slice_get program.globals x)))

  -- ---- what comes of secret memories, and what goes to public ones

  taken : (o : Option Command) → Decided ((memory : ℕ) × IsSomeAnd o (λ command. TakesSecret program command memory))
  taken None = inr (λ h. h.1)
  taken (Some (Load mark kind memory to offset address)) =
      decided_as (λ h. (memory, (refl, h))) (λ h. subst (IsSecretMemory program) (sym h.1.0) h.1.1)
      (decided_some (λ one. one.label ≡ label.Secret) (λ one. decided_secret_label one.label) (slice_get program.memories memory))
  taken (Some _) = inr (λ h. h.1)

  module _ (P : ℕ → Type 0) (each : (x : ℕ) → Decided (P x)) where
    given : (o : Option Command) → Decided ((x : ℕ) × IsSomeAnd o (λ command. GivesPublic program command x) × P x)
    given None = inr (λ h. h.1)
    given (Some (Store kind memory offset address (Var x))) =
        decided_as (λ h. (x.0, (h.0, refl), h.1)) (λ h. (h.1.0, subst P (sym h.1.1) h.2))
        (decided_both (decided_some (λ one. one.label ≡ label.Public) (λ one. decided_public_label one.label) (slice_get program.memories memory)) (each x.0))
    given (Some (Store kind memory offset address (Const number))) = inr (λ h. h.1.1)
    given (Some _) = inr (λ h. h.1)

    pub decided_store : (s : ℕ) → Decided ((x : ℕ) × Stores program s x × P x)
    decided_store s = given (command_at program s)

  -- ---- what is secret

  -- a variable that is declared secret, or that a Load of a secret memory writes
  abbrev Begins : ℕ → Type 0
  Begins x = ((origin : Origin) × Declares program x origin)
      ⊎ ((s : ℕ) × (s < commands program) × (((memory : ℕ) × LoadsSecret program s memory) × ((y : ℕ) × Writes program s y × (y ≡ x))))

  begins : (x : ℕ) → Decided (Begins x)
  begins x =
      decided_either (decided_declared x)
      (decided_below (commands program) (λ s. ((memory : ℕ) × LoadsSecret program s memory) × ((y : ℕ) × Writes program s y × (y ≡ x)))
      (λ s. decided_both (taken (command_at program s)) (decided_write program s (λ y. y ≡ x) (λ y. cases_eq y x))))

  abbrev FromBegins : ℕ → Type 0
  FromBegins = Reached program (λ s. Unit {0}) (λ s. inl tt) Begins begins

  reached_secret : (x : ℕ) → FromBegins x → Secret program x
  reached_secret = reached_least program (λ s. Unit {0}) (λ s. inl tt) Begins begins (Secret program)
      (λ x b. elim b as (λ _. Secret program x) [
        | inl h ↦ declared x h.0 h.1
        | inr l ↦ subst (Secret program) l.2.1.2 (loaded l.0 l.2.0.0 l.2.1.0 l.2.0.1 l.2.1.1)
      ])
      (λ s x y reads writes _ t. moved s x y reads writes t)

  secret_reached : (x : ℕ) → Secret program x → FromBegins x
  secret_reached x (declared _ origin h) = inl (inl (origin, h))
  secret_reached x (loaded s memory _ h writes) = inl (inr (s, stands_below program s (λ command. TakesSecret program command memory) h, ((memory, h), (x, writes, refl))))
  secret_reached x (moved s y _ reads writes t) = reached_on program (λ s. Unit {0}) (λ s. inl tt) Begins begins s y x reads writes tt (secret_reached y t)

  pub decided_secret : (x : ℕ) → Decided (Secret program x)
  decided_secret x = decided_as (reached_secret x) (secret_reached x) (decided_reached program (λ s. Unit {0}) (λ s. inl tt) Begins begins x)

  pub labelling : ℕ → Bool
  labelling x = holds (decided_secret x)

  pub is_tested : (x : ℕ) → IsTrue (labelling x) ↔ Secret program x
  unfolding labelling
  is_tested x = (if_holds (decided_secret x), holds_if (decided_secret x))
