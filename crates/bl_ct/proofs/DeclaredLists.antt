-- The lists of what a program declares, whole.
use Rattle.std.proofs.Common.{◌≡◌, ◌↔◌, ◌⊎◌, inl, inr, ℕ, suc, ◌+◌, ◌^◌, ◌<◌, List, [], ◌∷◌, ◌++◌, length, get_or, map, Option, Some, slice_get, refl, sym, ap, subst, ◌∙◌, arith}
use Rattle.std.specs.Prelude.{IsSomeAnd, option_map}
use Rattle.std.specs.List.{Contains}
use Rattle.std.proofs.lemmas.Option.{slice_get_within, slice_get-get_or, same_Some}
use Rattle.bl_base.proofs.Lists.{all_get, within_get}
use Rattle.bl_base.specs.declared.number.Var.{Var}
use Rattle.bl_base.specs.declared.names.Label.TheVariants as label
use Rattle.bl_base.proofs.Members.{in_map, from_map}
use Rattle.bl_base.proofs.OptionLemmas.{some_with, with_some}
use Rattle.bl_program.specs.Layout.{command_at, first_of, params_of, results_of}
use Rattle.bl_program.specs.Rules.{IsFunction, IsWellFormed}
use Rattle.bl_program.specs.declared.command.Command.{Command}
use Rattle.bl_program.specs.declared.definitions.FunctionDef.{FunctionDef}
use Rattle.bl_program.specs.declared.definitions.GlobalDef.{GlobalDef}
use Rattle.bl_program.specs.declared.definitions.ParamDef.{ParamDef}
use Rattle.bl_program.specs.declared.definitions.ProgramParts.{ProgramParts as Program}
use Rattle.bl_graph.specs.Secrets.{Declares, LoadsSecret, Stores, Demands, GivesPublic, TakesSecret, demanded_by}
use Rattle.bl_graph.specs.declared.facts.Use.{Use}
use Rattle.bl_graph.specs.declared.secret.Origin.{Origin}
use Rattle.bl_graph.specs.declared.secret.Origin.TheVariants.{Parameter, Global, Memory}
use Rattle.bl_program.proofs.Layouts.{first_above, first_below, next_first, number_is}
use Rattle.bl_graph.specs.Graphs.{use_of}
use Rattle.bl_ct.specs.Facts.{AreFacts, DeclaresOne, Gathers, SomeAt, GlobalFits, ParamFits, FunctionFits, LoadFits, StoreFits}
use Rattle.bl_ct.specs.declared.facts.Declared.{Declared}
use Rattle.bl_ct.specs.declared.facts.SecretLoad.{SecretLoad}
use Rattle.bl_ct.proofs.GatheredLists.{Below, gathered, gathers_as, gathers_next, gathers_one}

abbrev loaded_at : ℕ → ℕ → SecretLoad
loaded_at position memory = record { at = position; memory = memory }

abbrev one_of : Origin → ℕ → Declared
one_of origin x = record { var = x; origin = origin }

module _ (program : Program) where
  -- ---- what is declared secret

  -- the globals, and the parameters of the functions
  abbrev pub Listed : Declared → Type 0
  Listed one = SomeAt program.globals GlobalFits one ⊎ SomeAt program.functions (FunctionFits program) one

  pub listed_declares : (one : Declared) → Listed one → DeclaresOne program one
  listed_declares one (inl h) =
      subst (DeclaresOne program) (sym h.3.1) (with_some (slice_get program.globals h.0) (λ global. global.label ≡ label.Secret) h.1 h.2 h.3.0, refl)
  listed_declares one (inr h) =
      let p = h.3 in
      subst (DeclaresOne program) (sym p.3.1) (
        with_some (slice_get program.functions h.0) (λ defined. IsSomeAnd (slice_get defined.params p.0) (λ one. one.label ≡ label.Secret)) h.1 h.2
            (with_some (slice_get h.1.params p.0) (λ one. one.label ≡ label.Secret) p.1 p.2 p.3.0),
        refl,
      )

  pub declares_listed : (x : ℕ) (origin : Origin) → Declares program x origin → Listed (record { var = x; origin = origin })
  declares_listed x (Parameter function index) h =
      let f = some_with (slice_get program.functions function) (λ defined. IsSomeAnd (slice_get defined.params index) (λ one. one.label ≡ label.Secret)) h.0 in
      let p = some_with (slice_get f.0.params index) (λ one. one.label ≡ label.Secret) f.2 in
      inr (function, f.0, f.1, (index, p.0, p.1, (p.2, ap (one_of (Parameter function index)) (sym h.1))))
  declares_listed x (Global number) h =
      let g = some_with (slice_get program.globals number) (λ global. global.label ≡ label.Secret) h.0 in
      inl (number, g.0, g.1, (g.2, ap (one_of (Global number)) (sym h.1)))
  declares_listed x (Memory number) h = absurd h

  pub declared_are : (all : List Declared) → Gathers Listed [] all → Gathers (DeclaresOne program) [] all
  declared_are all listed =
      gathers_as Listed (DeclaresOne program) [] all (λ one. (listed_declares one, declares_listed one.var one.origin)) listed

  -- ---- all that is declared

  load_stands : (load : SecretLoad) → SomeAt program.commands (LoadFits program) load ↔ LoadsSecret program load.at load.memory
  load_stands load = (
    (λ h. with_some (command_at program load.at) (λ command. TakesSecret program command load.memory) h.1 (ap (slice_get program.commands) h.3.0 ∙ h.2) h.3.1),
    (λ h.
        let command = some_with (command_at program load.at) (λ command. TakesSecret program command load.memory) h in
        (load.at, command.0, command.1, (refl, command.2))),
  )

  store_stands : (store : Use) → SomeAt program.commands (StoreFits program) store ↔ Stores program store.at.0 store.var.0
  store_stands store = (
    (λ h. with_some (command_at program store.at.0) (λ command. GivesPublic program command store.var.0) h.1 (ap (slice_get program.commands) h.3.0 ∙ h.2) h.3.1),
    (λ h.
        let command = some_with (command_at program store.at.0) (λ command. GivesPublic program command store.var.0) h in
        (store.at.0, command.0, command.1, (refl, command.2))),
  )

  pub demand_stands : (x : ℕ) → Contains (map (demanded_by program) program.demands) x ↔ Demands program x
  demand_stands x = (
    (λ h. from_map (demanded_by program) program.demands x h),
    (λ h. subst (Contains (map (demanded_by program) program.demands)) h.2 (in_map (demanded_by program) program.demands h.0 h.1)),
  )

  pub facts_are : (all : List Declared) (loads : List SecretLoad) (stores : List Use) (demanded : List ℕ)
      → Gathers (DeclaresOne program) [] all → Gathers (SomeAt program.commands (LoadFits program)) [] loads
      → Gathers (SomeAt program.commands (StoreFits program)) [] stores → demanded ≡ map (demanded_by program) program.demands
      → AreFacts program (record { declared = all; loads = loads; stores = stores; demanded = demanded })
  facts_are all loads stores demanded are_declared are_loads are_stores are_demanded = record {
    declared = gathered (DeclaresOne program) all are_declared;
    loads = λ load. let exact = gathered (SomeAt program.commands (LoadFits program)) loads are_loads load in let same = load_stands load in
        ((λ h. same.0 (exact.0 h)), (λ h. exact.1 (same.1 h)));
    stores = λ store. let exact = gathered (SomeAt program.commands (StoreFits program)) stores are_stores store in let same = store_stands store in
        ((λ h. same.0 (exact.0 h)), (λ h. exact.1 (same.1 h)));
    demanded = λ x. subst (λ l. Contains l x ↔ Demands program x) (sym are_demanded) (demand_stands x);
  }

  -- ---- one item more

  pub load_next : (n : ℕ) (command : Command) (o : Option ℕ) (old new : List SecretLoad) → slice_get program.commands n ≡ Some command
      → ((number : ℕ) → (o ≡ Some number) ↔ TakesSecret program command number) → Gathers (λ load. (load.at ≡ n) × (o ≡ Some load.memory)) old new
      → Gathers (Below program.commands (LoadFits program) n) [] old → Gathers (Below program.commands (LoadFits program) (n + 1)) [] new
  load_next n command o old new is same step before =
      gathers_next program.commands (LoadFits program) n command [] old new is
      (gathers_as (λ load. (load.at ≡ n) × (o ≡ Some load.memory)) (LoadFits program n command) old new
      (λ load. ((λ h. (h.0, (same load.memory).0 h.1)), (λ h. (h.0, (same load.memory).1 h.1)))) step) before

  pub store_next : (n : ℕ) (command : Command) (o : Option ℕ) (old new : List Use) → slice_get program.commands n ≡ Some command
      → ((x : ℕ) → (o ≡ Some x) ↔ GivesPublic program command x) → Gathers (λ store. (store.at.0 ≡ n) × (o ≡ Some store.var.0)) old new
      → Gathers (Below program.commands (StoreFits program) n) [] old → Gathers (Below program.commands (StoreFits program) (n + 1)) [] new
  store_next n command o old new is same step before =
      gathers_next program.commands (StoreFits program) n command [] old new is
      (gathers_as (λ store. (store.at.0 ≡ n) × (o ≡ Some store.var.0)) (StoreFits program n command) old new
      (λ store. ((λ h. (h.0, (same store.var.0).0 h.1)), (λ h. (h.0, (same store.var.0).1 h.1)))) step) before

-- ---- the same for an item at its place

module _ (program : Program) (ys : List Command) (e : ys ≡ program.commands) (n : ℕ) (d : Command) (lt : n < length ys) where
  command_is : slice_get program.commands n ≡ Some (get_or ys n d)
  command_is = subst (λ l. slice_get l n ≡ Some (get_or ys n d)) e (slice_get-get_or ys n d lt)

  pub load_step : (o : Option ℕ) (old new : List SecretLoad) → ((number : ℕ) → (o ≡ Some number) ↔ TakesSecret program (get_or ys n d) number)
      → Gathers (λ load. (load.at ≡ n) × (o ≡ Some load.memory)) old new
      → Gathers (Below program.commands (LoadFits program) n) [] old → Gathers (Below program.commands (LoadFits program) (n + 1)) [] new
  load_step o old new = load_next program n (get_or ys n d) o old new command_is

  pub store_step : (o : Option ℕ) (old new : List Use) → ((x : ℕ) → (o ≡ Some x) ↔ GivesPublic program (get_or ys n d) x)
      → Gathers (λ store. (store.at.0 ≡ n) × (o ≡ Some store.var.0)) old new
      → Gathers (Below program.commands (StoreFits program) n) [] old → Gathers (Below program.commands (StoreFits program) (n + 1)) [] new
  store_step o old new = store_next program n (get_or ys n d) o old new command_is

pub global_step : (globals : List GlobalDef) (n : ℕ) (d : GlobalDef) (a b c : List Declared) → n < length globals → Gathers (GlobalFits n (get_or globals n d)) b c
    → Gathers (Below globals GlobalFits n) a b → Gathers (Below globals GlobalFits (n + 1)) a c
global_step globals n d a b c lt = gathers_next globals GlobalFits n (get_or globals n d) a b c (slice_get-get_or globals n d lt)

pub param_step : (function first : ℕ) (params : List ParamDef) (n : ℕ) (d : ParamDef) (a b c : List Declared) → n < length params
    → Gathers (ParamFits function first n (get_or params n d)) b c
    → Gathers (Below params (ParamFits function first) n) a b → Gathers (Below params (ParamFits function first) (n + 1)) a c
param_step function first params n d a b c lt = gathers_next params (ParamFits function first) n (get_or params n d) a b c (slice_get-get_or params n d lt)

-- ---- one behind a list, where there is one

pub load_one : (at_ : ℕ) (o : Option ℕ) (memory : ℕ) (old new : List SecretLoad) → o ≡ Some memory → new ≡ old ++ record { at = at_; memory = memory } ∷ []
    → Gathers (λ load. (load.at ≡ at_) × (o ≡ Some load.memory)) old new
load_one at_ o memory old new some is =
    gathers_one (λ load. (load.at ≡ at_) × (o ≡ Some load.memory)) old new (record { at = at_; memory = memory }) is (λ x. (
      (λ h.
          let same : memory ≡ x.memory = same_Some memory x.memory (sym some ∙ h.1) in
          subst (λ m. loaded_at at_ m ≡ x) (sym same) (subst (λ a. loaded_at a x.memory ≡ x) h.0 refl)),
      (λ e. subst (λ (y : SecretLoad). (y.at ≡ at_) × (o ≡ Some y.memory)) e (refl, some)),
    ))

pub store_one : (at_ : ℕ) (o : Option Var) (var : Var) (old new : List Use) → o ≡ Some var → new ≡ old ++ use_of at_ var.0 ∷ []
    → Gathers (λ store. (store.at.0 ≡ at_) × (option_map (λ (v : Var). v.0) o ≡ Some store.var.0)) old new
store_one at_ o var old new some is =
    let is_some : option_map (λ (v : Var). v.0) o ≡ Some var.0 = ap (option_map (λ (v : Var). v.0)) some in
    gathers_one (λ store. (store.at.0 ≡ at_) × (option_map (λ (v : Var). v.0) o ≡ Some store.var.0)) old new (use_of at_ var.0) is (λ x. (
      (λ h.
          let same : var.0 ≡ x.var.0 = same_Some var.0 x.var.0 (sym is_some ∙ h.1) in
          subst (λ v. use_of at_ v ≡ x) (sym same) (subst (λ a. use_of a x.var.0 ≡ x) h.0 refl)),
      (λ e. subst (λ (y : Use). (y.at.0 ≡ at_) × (option_map (λ (v : Var). v.0) o ≡ Some y.var.0)) e (refl, is_some)),
    ))

-- ---- what fits into 32 bits

module _ (program : Program) (rules : IsWellFormed program) where
  pub globals_few : length program.globals < 2 ^ 32
  globals_few = let up = first_above program (length program.functions) in let most = rules.rule2.variables in omega arith

  pub params_fit : (function : ℕ) (defined : FunctionDef) → slice_get program.functions function ≡ Some defined
      → first_of program function + length defined.params < 2 ^ 31
  params_fit function defined item =
      let within = slice_get_within program.functions function defined item in
      let room = (all_get IsFunction program.functions function defined rules.rule2.each item).variables in
      let next = next_first program function defined item in
      let low = first_below program (suc function) (omega arith) in
      let most = rules.rule2.variables in
      omega arith

  pub params_small : (function : ℕ) (defined : FunctionDef) → slice_get program.functions function ≡ Some defined → length defined.params < 2 ^ 32
  params_small function defined item = let fits = params_fit function defined item in omega arith

  pub params_are : (function : ℕ) (defined : FunctionDef) → slice_get program.functions function ≡ Some defined → length defined.params ≡ params_of program function
  params_are function defined item = sym (number_is (λ (f : FunctionDef). length f.params) program.functions function defined item)

  -- the variable of a result that is demanded
  pub demand_fits : (function index : ℕ) → function < length program.functions → index < results_of program function
      → first_of program function + params_of program function + index < 2 ^ 31
  demand_fits function index exists low =
      let f = within_get program.functions function exists in
      let room = (all_get IsFunction program.functions function f.0 rules.rule2.each f.1).variables in
      let results = number_is (λ (f : FunctionDef). length f.results) program.functions function f.0 f.1 in
      let params = number_is (λ (f : FunctionDef). length f.params) program.functions function f.0 f.1 in
      let next = next_first program function f.0 f.1 in
      let up = first_below program (suc function) (omega arith) in
      let most = rules.rule2.variables in
      omega arith

-- the function that is read at its place
pub function_is : (program : Program) (ys : List FunctionDef) → ys ≡ program.functions → (function : ℕ) (d : FunctionDef) → function < length ys
    → slice_get program.functions function ≡ Some (get_or ys function d)
function_is program ys e function d lt = subst (λ l. slice_get l function ≡ Some (get_or ys function d)) e (slice_get-get_or ys function d lt)
