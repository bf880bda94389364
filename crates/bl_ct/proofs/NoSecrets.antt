-- Where nothing is declared secret, no variable is secret.
use Rattle.std.proofs.Common.{◌≡◌, ◌∙◌, ℕ, List, [], arith, refl, sym, slice_get}
use Rattle.std.specs.Prelude.{All, IsSomeAnd}
use Rattle.std.proofs.lemmas.Bool.{false≢true}
use Rattle.bl_base.proofs.Lists.{all_get}
use Rattle.bl_base.specs.declared.names.Label.{Label}
use Rattle.bl_base.specs.declared.names.Label.TheVariants as label
use Rattle.bl_base.proofs.OptionLemmas.{some_with}
use Rattle.bl_program.specs.Layout.{command_at}
use Rattle.bl_program.specs.declared.command.Command.{Command}
use Rattle.bl_program.specs.declared.command.Command.TheVariants.{Load}
use Rattle.bl_program.specs.declared.definitions.FunctionDef.{FunctionDef}
use Rattle.bl_program.specs.declared.definitions.GlobalDef.{GlobalDef}
use Rattle.bl_program.specs.declared.definitions.MemoryDef.{MemoryDef}
use Rattle.bl_program.specs.declared.definitions.ParamDef.{ParamDef}
use Rattle.bl_program.specs.declared.definitions.ProgramParts.{ProgramParts as Program}
use Rattle.bl_graph.specs.Labels.{Secret, declared, loaded, moved}
use Rattle.bl_graph.specs.Secrets.{Declares, LoadsSecret, TakesSecret}
use Rattle.bl_graph.specs.declared.secret.Origin.{Origin}
use Rattle.bl_graph.specs.declared.secret.Origin.TheVariants.{Parameter, Global, Memory}
use Rattle.bl_ct.specs.Facts.{HasNoSecrets, HasPublicParams}
use Rattle.bl_ct.specs.Verdicts.{AreSecrets}
use Rattle.bl_ct.proofs.KnownRanges.{secret_public}

-- what is public isn't secret
none_secret : {A : Type 0} (label_in : A → Label) (xs : List A) (place : ℕ) → All (λ x. label_in x ≡ label.Public) xs
    → IsSomeAnd (slice_get xs place) (λ x. label_in x ≡ label.Secret) → ⊥
none_secret label_in xs place all h =
    let one = some_with (slice_get xs place) (λ x. label_in x ≡ label.Secret) h in
    secret_public (sym one.2 ∙ all_get (λ x. label_in x ≡ label.Public) xs place one.0 all one.1)

params_public : (function : FunctionDef) → HasPublicParams function → All (λ (param : ParamDef). param.label ≡ label.Public) function.params
unfolding HasPublicParams
params_public function h = h

module _ (program : Program) (none : HasNoSecrets program) where
  not_declared : (x : ℕ) (origin : Origin) → Declares program x origin → ⊥
  not_declared x (Parameter function index) h =
      let one = some_with (slice_get program.functions function) (λ defined. IsSomeAnd (slice_get defined.params index) (λ one. one.label ≡ label.Secret)) h.0 in
      none_secret (λ (param : ParamDef). param.label) one.0.params index
      (params_public one.0 (all_get HasPublicParams program.functions function one.0 none.functions one.1)) one.2
  not_declared x (Global number) h = none_secret (λ (global : GlobalDef). global.label) program.globals number none.globals h.0
  not_declared x (Memory number) h = absurd h

  not_taken : (command : Command) (memory : ℕ) → TakesSecret program command memory → ⊥
  not_taken (Load mark kind from to offset address) memory h = none_secret (λ (one : MemoryDef). one.label) program.memories memory none.memories h.1
  not_taken _ memory h = absurd h

  not_loaded : (s memory : ℕ) → LoadsSecret program s memory → ⊥
  not_loaded s memory h =
      let stands = some_with (command_at program s) (λ command. TakesSecret program command memory) h in
      not_taken stands.0 memory stands.2

  not_secret : (x : ℕ) → Secret program x → ⊥
  not_secret _ (declared x origin h) = not_declared x origin h
  not_secret _ (loaded s memory x h w) = not_loaded s memory h
  not_secret _ (moved s x y r w h) = not_secret x h

  -- no step is needed
  pub no_secrets : AreSecrets program []
  no_secrets = record {
    small = λ k d lt. absurd (let none = lt in omega arith);
    labelled = record {
      assigns = record {
        declared = λ x origin h. absurd (not_declared x origin h);
        loads = λ s memory x h w. absurd (not_loaded s memory h);
        moves = λ s x y r w h. absurd (false≢true h);
      };
      sinks = λ position x h. refl;
      stores = λ position x h. refl;
      demanded = λ x h. refl;
    };
    least = λ x. (λ h. absurd (false≢true h), λ h. absurd (not_secret x h));
  }
