-- In which ranges lies what is known of a program.
use Rattle.std.proofs.Common.{◌≡◌, inl, inr, ℕ, suc, ◌<◌, ◌^◌, ◌++◌, List, length, map, slice_get, sym, ap, subst, ◌∙◌, arith}
use Rattle.std.specs.Prelude.{IsSomeAnd}
use Rattle.std.specs.List.{All, Contains, slice_index_or}
use Rattle.std.proofs.lemmas.List.Elements.{All-contains, Contains-append_left, Contains-append_right, Contains-append_cases, Contains-get_or}
use Rattle.std.proofs.lemmas.Option.{slice_get_within, same_Some}
use Rattle.bl_base.proofs.Lists.{all_get, within_get}
use Rattle.bl_base.specs.declared.names.Label.{Label}
use Rattle.bl_base.specs.declared.names.Label.TheVariants as label
use Rattle.bl_base.proofs.Members.{in_map, from_map}
use Rattle.bl_base.proofs.OptionLemmas.{some_with}
use Rattle.bl_program.specs.Layout.{command_at, statics, params_of, results_of, result}
use Rattle.bl_program.specs.Programs.{IsProgram}
use Rattle.bl_program.specs.Rules.{IsWellFormed, IsDemand, IsFunction, IsOwn, operands_of}
use Rattle.bl_program.specs.Sites.{Among}
use Rattle.bl_program.specs.declared.command.Command.{Command}
use Rattle.bl_program.specs.declared.command.Command.TheVariants.{Store}
use Rattle.bl_program.specs.declared.definitions.Demand.{Demand}
use Rattle.bl_program.specs.declared.definitions.Demand.TheVariants as demand
use Rattle.bl_program.specs.declared.definitions.FunctionDef.{FunctionDef}
use Rattle.bl_program.specs.declared.definitions.GlobalDef.{GlobalDef}
use Rattle.bl_program.specs.declared.definitions.ProgramParts.{ProgramParts as Program}
use Rattle.bl_program.proofs.Layouts.{first_below, first_above, next_first, number_is, own_apart, result_own}
use Rattle.bl_graph.specs.Ranges.{commands, variables, AreInRange}
use Rattle.bl_graph.specs.Secrets.{IsSecretParam, IsSecretGlobal, Declares, Stores, GivesPublic, demanded_by}
use Rattle.bl_graph.specs.declared.facts.Use.{Use}
use Rattle.bl_graph.specs.declared.secret.Origin.{Origin}
use Rattle.bl_graph.specs.declared.secret.Origin.TheVariants.{Parameter, Global, Memory}
use Rattle.bl_graph.specs.Graphs.{use_of}
use Rattle.bl_graph.specs.Labels.{Secret, declared, loaded, moved}
use Rattle.bl_graph.specs.Names.{AreNames}
use Rattle.bl_graph.proofs.NameLemmas.{Rise, few_names}
use Rattle.bl_graph.proofs.RangeLemmas.{in_range, param_small, operand_small}
use Rattle.bl_ct.specs.Facts.{AreFacts, AreSecretsInRange, IsKnown, NamesAll, vars_of}
use Rattle.bl_ct.specs.declared.facts.Facts.{Facts}
use Rattle.bl_ct.specs.declared.facts.Declared.{Declared}
use Rattle.bl_ct.specs.declared.facts.Known.{Known}

abbrev IsSecretLabel : Label → Type 0
IsSecretLabel label.Public = ⊥
IsSecretLabel label.Secret = Unit {0}

pub secret_public : label.Secret ≡ label.Public → ⊥
secret_public e = subst IsSecretLabel e tt

module _ (program : Program) (facts : IsProgram program) (rules : IsWellFormed program) where
  -- a parameter that is declared secret is one of its function's
  param_own : (function index : ℕ) → IsSecretParam program function index → (function < length program.functions) × (index < params_of program function)
  param_own function index h =
      let f = some_with (slice_get program.functions function) (λ defined. IsSomeAnd (slice_get defined.params index) (λ one. one.label ≡ label.Secret)) h in
      let p = some_with (slice_get f.0.params index) (λ one. one.label ≡ label.Secret) f.2 in
      let low = slice_get_within f.0.params index p.0 p.1 in
      let count = number_is (λ (g : FunctionDef). length g.params) program.functions function f.0 f.1 in
      (slice_get_within program.functions function f.0 f.1, omega arith)

  global_static : (number : ℕ) → IsSecretGlobal program number → number < statics program
  global_static number h =
      let g = some_with (slice_get program.globals number) (λ global. global.label ≡ label.Secret) h in
      let low = slice_get_within program.globals number g.0 g.1 in
      omega arith

  static_small : (x : ℕ) → x < statics program → x < variables program
  static_small x low = let up = first_above program (length program.functions) in omega arith

  declared_small : (x : ℕ) (origin : Origin) → Declares program x origin → x < variables program
  declared_small x (Parameter function index) h =
      let own = param_own function index h.0 in subst (λ y. y < variables program) h.1 (param_small program facts rules function index own.0 own.1)
  declared_small x (Global number) h = subst (λ y. y < variables program) h.1 (static_small number (global_static number h.0))
  declared_small x (Memory number) h = absurd h

  given_among : (command : Command) (x : ℕ) → GivesPublic program command x → Among (operands_of command) x
  given_among (Store kind memory offset address value) x h = inr (inl h.1)
  given_among _ x h = absurd h

  stored_small : (position x : ℕ) → Stores program position x → x < variables program
  stored_small position x h =
      let stands = some_with (command_at program position) (λ command. GivesPublic program command x) h in
      operand_small program facts rules position stands.0 x stands.1 (given_among stands.0 x stands.2)

  -- a result that is demanded is one of its function's
  demand_own : (function index : ℕ) → index < results_of program function → IsOwn program function (result program function index)
  demand_own function index low = result_own program function (result program function index) rules.rule2 (omega arith, omega arith)

  demand_small : (one : Demand) → IsDemand program one → demanded_by program one < variables program
  demand_small (demand.Result function index) h =
      let own = demand_own function index h.1 in let up = first_below program (suc function) (let e = h.0 in omega arith) in let high = own.1 in omega arith
  demand_small (demand.Global number) h =
      let g = some_with (slice_get program.globals number) (λ global. global.label ≡ label.Public) h in
      let low = slice_get_within program.globals number g.0 g.1 in
      static_small number (omega arith)

  -- what is declared secret isn't demanded to be public
  one_apart : (origin : Origin) (one : Demand) (x : ℕ) → Declares program x origin → IsDemand program one → demanded_by program one ≡ x → ⊥
  one_apart (Parameter function index) (demand.Result other place) x h d e =
      let own = param_own function index h.0 in
      let other_own = demand_own other place d.1 in
      let up = first_below program (suc function) (let lt = own.0 in omega arith) in
      let f = within_get program.functions function own.0 in
      let next = next_first program function f.0 f.1 in
      let count = number_is (λ (g : FunctionDef). length g.params) program.functions function f.0 f.1 in
      let room = (all_get IsFunction program.functions function f.0 rules.rule2.each f.1).variables in
      let low = own.1 in
      let is = h.1 in
      let same : function ≡ other = own_apart program function other x (omega arith, omega arith) (subst (IsOwn program other) e other_own) in
      let place_is : result program function place ≡ x = ap (λ g. result program g place) same ∙ e in
      omega arith
  one_apart (Parameter function index) (demand.Global number) x h d e =
      let g = some_with (slice_get program.globals number) (λ global. global.label ≡ label.Public) d in
      let low = slice_get_within program.globals number g.0 g.1 in
      let above = first_above program function in
      let is = h.1 in
      omega arith
  one_apart (Global number) (demand.Result other place) x h d e =
      let low = global_static number h.0 in
      let own = (demand_own other place d.1).0 in
      let above = first_above program other in
      let is = h.1 in
      omega arith
  one_apart (Global number) (demand.Global other) x h d e =
      let g = some_with (slice_get program.globals number) (λ global. global.label ≡ label.Secret) h.0 in
      let k = some_with (slice_get program.globals other) (λ global. global.label ≡ label.Public) d in
      let same : number ≡ other = h.1 ∙ sym e in
      let one : g.0 ≡ k.0 = same_Some g.0 k.0 (sym g.1 ∙ (ap (slice_get program.globals) same ∙ k.1)) in
      secret_public (sym g.2 ∙ (ap (λ (d : GlobalDef). d.label) one ∙ k.2))
  one_apart (Memory number) one x h d e = h

  is_demand : (one : Demand) → Contains program.demands one → IsDemand program one
  is_demand one h = subst (IsDemand program) h.2 (rules.rule9.demands h.0 one h.1)

  pub secrets_in_range : AreSecretsInRange program
  secrets_in_range = record {
    declared = declared_small;
    stores = stored_small;
    demanded = λ x h. subst (λ y. y < variables program) h.2 (demand_small h.0 (is_demand h.0 h.1));
    apart = λ x origin h d. one_apart origin d.0 x h (is_demand d.0 d.1) d.2;
  }

-- ---- the lists of what is known

module _ (known : Known) (is : IsKnown known) where
  pub range : AreInRange known.program.now
  range = in_range known.program.now is.is_program is.rules

  -- they fit 32 bits
  pub names_few : length known.names.now < 2 ^ 32
  names_few = let few = few_names known.program.now known.names.now range is.names.are in omega arith

  pub names_rise : Rise known.names.now
  names_rise = is.names.are.rise

  pub writes_in : (u : Use) → Contains known.graph.now.writes u → (u.at.0 < commands known.program.now) × Contains known.names.now u.var.0
  writes_in u h =
      let writes = (is.graph.writes.each u.at.0 u.var.0).0 h in
      (range.sites u.at.0 (range.writes u.at.0 u.var.0 writes).0, is.names.are.writes u.at.0 u.var.0 writes)

  pub reads_in : (u : Use) → Contains known.graph.now.reads u → (u.at.0 < commands known.program.now) × Contains known.names.now u.var.0
  reads_in u h =
      let reads = (is.graph.reads.each u.at.0 u.var.0).0 h in
      (range.sites u.at.0 (range.reads u.at.0 u.var.0 reads).0, is.names.are.reads u.at.0 u.var.0 reads)

  pub sinks_in : (u : Use) → Contains known.graph.now.sinks u → Contains known.names.now u.var.0
  sinks_in u h = is.names.are.sinks u.at.0 u.var.0 ((is.graph.sinks.each u.at.0 u.var.0).0 h)

  pub stores_in : (u : Use) → Contains known.facts.now.stores u → Contains known.names.now u.var.0
  stores_in u h = is.names.stores u.at.0 u.var.0 ((is.facts.stores u).0 h)

  pub declared_in : (one : Declared) → Contains known.facts.now.declared one → Contains known.names.now one.var
  declared_in one h = is.names.declared one.var one.origin ((is.facts.declared one).0 h)

  pub demanded_in : (x : ℕ) → Contains known.facts.now.demanded x → Contains known.names.now x
  demanded_in x h = is.names.demanded x ((is.facts.demanded x).0 h)

  -- each secret variable is declared secret, or some command writes it
  pub secret_in : (x : ℕ) → Secret known.program.now x → Contains known.names.now x
  secret_in x (declared _ origin h) = is.names.declared x origin h
  secret_in x (loaded s memory _ h w) = is.names.are.writes s x w
  secret_in x (moved s y _ r w h) = is.names.are.writes s x w

-- ---- the names of a program and its facts

module _ (program : Program) (facts : Facts) (are : AreFacts program facts) (vars : List ℕ) (is : vars ≡ vars_of facts) where
  abbrev declared_vars : List ℕ
  declared_vars = map (λ (one : Declared). one.var) facts.declared

  abbrev stored_vars : List ℕ
  stored_vars = map (λ (one : Use). one.var.0) facts.stores

  of_declared : AreSecretsInRange program → (x : ℕ) → Contains declared_vars x → x < variables program
  of_declared range x h =
      let one = from_map (λ (one : Declared). one.var) facts.declared x h in
      subst (λ y. y < variables program) one.2 (range.declared one.0.var one.0.origin ((are.declared one.0).0 one.1))

  of_stored : AreSecretsInRange program → (x : ℕ) → Contains stored_vars x → x < variables program
  of_stored range x h =
      let one = from_map (λ (one : Use). one.var.0) facts.stores x h in
      subst (λ y. y < variables program) one.2 (range.stores one.0.at.0 one.0.var.0 ((are.stores one.0).0 one.1))

  pub vars_small : AreSecretsInRange program → All (λ x. x < variables program) vars
  vars_small range = λ k d lt.
      let x : ℕ = slice_index_or vars k d in
      let there : Contains (vars_of facts) x = subst (λ l. Contains l x) is (Contains-get_or vars k d lt) in
      elim (Contains-append_cases (declared_vars ++ stored_vars) facts.demanded x there) as (λ _. x < variables program) [
        | inl front ↦ elim (Contains-append_cases declared_vars stored_vars x front) as (λ _. x < variables program) [
          | inl one ↦ of_declared range x one
          | inr one ↦ of_stored range x one
        ]
        | inr one ↦ range.demanded x ((are.demanded x).0 one)
      ]

  pub names_all : (names : List ℕ) → AreNames program names → All (λ x. Contains names x) vars → NamesAll program names
  names_all names are_names all =
      let has : (x : ℕ) → Contains (vars_of facts) x → Contains names x = λ x h.
      All-contains (λ x. Contains names x) vars x all (subst (λ l. Contains l x) (sym is) h) in
      let front : (x : ℕ) → Contains (declared_vars ++ stored_vars) x → Contains names x = λ x h.
      has x (Contains-append_left (declared_vars ++ stored_vars) facts.demanded x h) in
      record {
        are = are_names;
        declared = λ x origin h. front x (Contains-append_left declared_vars stored_vars x
            (in_map (λ (one : Declared). one.var) facts.declared (record { var = x; origin = origin }) ((are.declared (record { var = x; origin = origin })).1 h)));
        stores = λ position x h. front x (Contains-append_right declared_vars stored_vars x
            (in_map (λ (one : Use). one.var.0) facts.stores (use_of position x) ((are.stores (use_of position x)).1 h)));
        demanded = λ x h. has x (Contains-append_right (declared_vars ++ stored_vars) facts.demanded x ((are.demanded x).1 h));
      }
