-- The variables that an interface calls so, as lists, are those that the tests tell.
use Rattle.std.proofs.Common.{◌≡◌, inl, inr, ℕ, suc, ◌+◌, ◌-◌, ◌^◌, ◌<◌, Bool, true, false, List, [], ◌∷◌, ◌++◌, length, take, get_or, Some, None, slice_get, refl, sym, ap, ◌∙◌, arith}
use Rattle.std.specs.Prelude.{◌&&◌, ◌||◌, nat_eq, nat_le, option_map, slice_index, unwrap_or}
use Rattle.std.specs.List.{list_any}
use Rattle.std.proofs.lemmas.Bool.{and_right, cases_eq, cases_lt, eq-eqb, le-leb, lt-leb, ne_eqb}
use Rattle.std.proofs.lemmas.List.Folds.{list_any-append, list_any_more}
use Rattle.std.proofs.lemmas.Option.{slice_get_read}
use Rattle.bl_base.proofs.Lists.{all_get, within_get}
use Rattle.bl_base.specs.declared.names.Flow.{Flow}
use Rattle.bl_base.specs.declared.names.Flow.TheVariants.{Stable, Transient}
use Rattle.bl_base.specs.declared.names.Role.{Role}
use Rattle.bl_base.specs.declared.names.Role.TheVariants.{Client, Library}
use Rattle.bl_program.specs.Layout.{first_of, param, params_of, result, results_of}
use Rattle.bl_program.specs.Rules.{IsFunction, Rule2}
use Rattle.bl_program.specs.Layout.{AreValues}
use Rattle.bl_program.specs.declared.definitions.FunctionDef.{FunctionDef}
use Rattle.bl_program.specs.declared.definitions.ProgramParts.{ProgramParts as Program}
use Rattle.bl_program.proofs.Layouts.{first_below, next_first, number_is}
use Rattle.bl_transient.specs.declared.asked.AskedOf.{AskedOf}
use Rattle.bl_iface.specs.RoleLists.{Adds, AreAsked, Lists, asked_from, called_from, kept_if}
use Rattle.bl_iface.specs.JoinedProgram.{exported}
use Rattle.bl_iface.specs.InterfaceFunctions.{AreTargets, Fits, IsMatched, Matches}
use Rattle.bl_iface.specs.RoleTests.{is_called, is_flow, params_called, results_called}
use Rattle.bl_iface.specs.declared.iface.FnIface.{FnIface}
use Rattle.bl_iface.specs.declared.iface.Iface.{Iface}
use Rattle.bl_iface.proofs.RoleTestLemmas.{Called}
use Rattle.bl_iface.proofs.PartTyping.{known}

-- ---- one function's variables

none_called : (flow : Flow) → is_flow flow None ≡ false
none_called Stable = refl
none_called Transient = refl

or_none : (b : Bool) → (b || false) ≡ b
or_none true = refl
or_none false = refl

kept_is : (called : Bool) (first x : ℕ) → list_any (nat_eq x) (kept_if called first) ≡ (nat_eq x first && called)
kept_is called first x = by called (nat_eq x first) refl
  where
    by : (called b : Bool) → nat_eq x first ≡ b → list_any (nat_eq x) (kept_if called first) ≡ (nat_eq x first && called)
    by true true e = ap (λ b. b || false) e ∙ sym (ap (λ b. b && true) e)
    by true false e = ap (λ b. b || false) e ∙ sym (ap (λ b. b && true) e)
    by false true e = sym (ap (λ b. b && false) e)
    by false false e = sym (ap (λ b. b && false) e)

-- the first variable or a later one
front_is : (flow one : Flow) (others : List Flow) (first x : ℕ)
    → ((nat_eq x first && is_flow flow (Some one)) || is_called flow others (suc first) x) ≡ is_called flow (one ∷ others) first x
front_is flow one others first x =
    let here : Bool = is_flow flow (Some one) in
    let after : Bool = is_flow flow (slice_get others (x - suc first)) in
    elim (cases_lt x first) as (λ _. ((nat_eq x first && here) || is_called flow others (suc first) x) ≡ is_called flow (one ∷ others) first x) [
      | inl less ↦
          ap (λ b. (b && here) || (nat_le (suc first) x && after)) (ne_eqb x first (λ e. omega arith))
          ∙ ap (λ b. b && after) (lt-leb (suc first) x (omega arith))
          ∙ sym (ap (λ b. b && is_flow flow (slice_get (one ∷ others) (x - first))) (lt-leb first x less))
      | inr le ↦
          elim (cases_eq x first) as (λ _. ((nat_eq x first && here) || is_called flow others (suc first) x) ≡ is_called flow (one ∷ others) first x) [
            | inl same ↦
                let at_first : x - first ≡ 0 = omega arith in
                ap (λ b. (b && here) || (nat_le (suc first) x && after)) (eq-eqb x first same)
                ∙ ap (λ b. here || (b && after)) (lt-leb (suc first) x (omega arith))
                ∙ or_none here
                ∙ sym (ap (λ b. b && is_flow flow (slice_get (one ∷ others) (x - first))) (le-leb first x le) ∙ ap (λ k. is_flow flow (slice_get (one ∷ others) k)) at_first)
            | inr other ↦
                let later : x - first ≡ suc (x - suc first) = omega arith in
                ap (λ b. (b && here) || (nat_le (suc first) x && after)) (ne_eqb x first other)
                ∙ ap (λ b. b && after) (le-leb (suc first) x (omega arith))
                ∙ sym (ap (λ b. b && is_flow flow (slice_get (one ∷ others) (x - first))) (le-leb first x le) ∙ ap (λ k. is_flow flow (slice_get (one ∷ others) k)) later)
          ]
    ]

-- the list has exactly the variables that are called so
pub called_is : (flow : Flow) (flows : List Flow) (first x : ℕ) → list_any (nat_eq x) (called_from flow flows first) ≡ is_called flow flows first x
called_is flow [] first x = sym (and_right (nat_le first x) (is_flow flow None) (none_called flow))
called_is flow (one ∷ others) first x =
    list_any-append (nat_eq x) (kept_if (is_flow flow (Some one)) first) (called_from flow others (suc first))
    ∙ ap (λ b. b || list_any (nat_eq x) (called_from flow others (suc first))) (kept_is (is_flow flow (Some one)) first x)
    ∙ ap (λ b. (nat_eq x first && is_flow flow (Some one)) || b) (called_is flow others (suc first) x)
    ∙ front_is flow one others first x

-- ---- the functions of an interface so far

module _ (program : Program) (lists : FnIface → List Flow) (firsts : ℕ → ℕ) (flow : Flow) where
  -- the list has exactly the variables that some of these functions calls so
  abbrev SoFar : List FnIface → List ℕ → Type 0
  SoFar functions called = Lists (λ x. list_any (λ one. Called program lists firsts flow one x) functions) called

  -- one function more
  called_more : (functions : List FnIface) (index f : ℕ) (one : FnIface) (called more : List ℕ) → index < length functions → one ≡ get_or functions index one
      → exported program.exports one.name ≡ Some f → more ≡ called ++ called_from flow (lists one) (firsts f) → SoFar (take index functions) called
      → SoFar (take (index + 1) functions) more
  called_more functions index f one called more lt is e added so_far x =
      let calls : (FnIface → Bool) = λ one. Called program lists firsts flow one x in
      let here : calls one ≡ is_called flow (lists one) (firsts f) x =
      ap (λ o. unwrap_or (option_map (λ f. is_called flow (lists one) (firsts f) x) o) false) e in
      ap (list_any (nat_eq x)) added ∙ list_any-append (nat_eq x) called (called_from flow (lists one) (firsts f))
      ∙ ap (λ b. b || list_any (nat_eq x) (called_from flow (lists one) (firsts f))) (so_far x)
      ∙ ap (λ b. list_any calls (take index functions) || b) (called_is flow (lists one) (firsts f) x ∙ sym here)
      ∙ sym (list_any_more calls functions index one lt ∙ ap (λ o. list_any calls (take index functions) || calls o) (sym is))

-- ---- where a function of the interface stands in the program

-- the program's function of a name, and its first variable
pub record StandsAt (program : Program) (one : FnIface) (f first : ℕ) : Type 0 where
  pub named : exported program.exports one.name ≡ Some f
  pub first_is : first ≡ first_of program f
  pub params : params_of program f ≡ length one.params
  pub results : results_of program f ≡ length one.results
  pub room : first_of program f + params_of program f + results_of program f < 2 ^ 31

-- a function's parameters and results are variables of the program
room_of : (program : Program) (f : ℕ) → Rule2 program → f < length program.functions → first_of program f + params_of program f + results_of program f < 2 ^ 31
room_of program f rule lt =
    let got = within_get program.functions f lt in
    let params : params_of program f ≡ length got.0.params = number_is (λ (d : FunctionDef). length d.params) program.functions f got.0 got.1 in
    let results : results_of program f ≡ length got.0.results = number_is (λ (d : FunctionDef). length d.results) program.functions f got.0 got.1 in
    let next = next_first program f got.0 got.1 in
    let room = (all_get IsFunction program.functions f got.0 rule.each got.1).variables in
    let up = first_below program (suc f) (omega arith) in
    let all = rule.variables in
    omega arith

pub stands_at : (program : Program) (iface : Iface) (firsts targets : List ℕ) → Rule2 program → Matches program iface → AreValues (first_of program) (length program.functions) firsts
    → AreTargets program iface targets → (index : ℕ) (one : FnIface) → index < length iface.functions → one ≡ get_or iface.functions index one
    → StandsAt program one (slice_index targets index) (slice_index firsts (slice_index targets index))
stands_at program iface firsts targets rule matches values are index one lt is =
    let f : ℕ = slice_index targets index in
    let stands : slice_get iface.functions index ≡ Some one = slice_get_read iface.functions (length iface.functions) index one refl lt is in
    let named : exported program.exports one.name ≡ Some f = are.each index one stands in
    let fits : Fits program one f = known (exported program.exports one.name) f (Fits program one) (all_get (IsMatched program) iface.functions index one matches stands) named in
    let exists : f < length program.functions = are.exist index 0 (let many = are.many in omega arith) in
    record { named = named; first_is = values.each f (omega arith); params = fits.0; results = fits.1; room = room_of program f rule exists }

-- ---- what a role asks of the functions so far

abbrev pub AskedSoFar : Role → Iface → Program → ℕ → AskedOf → Type 0
AskedSoFar role iface program index = AreAsked role (record { functions = take index iface.functions }) program

pub asked_none : (role : Role) (iface : Iface) (program : Program) → AskedSoFar role iface program 0 (record { transient = []; stable = [] })
asked_none Client iface program = record { transient = λ x. refl; stable = λ x. refl }
asked_none Library iface program = record { transient = λ x. refl; stable = λ x. refl }

-- one function more
pub asked_more : (role : Role) (iface : Iface) (program : Program) (index f first : ℕ) (one : FnIface) (asked more : AskedOf) → index < length iface.functions → one ≡ get_or iface.functions index one
    → StandsAt program one f first → Adds asked (asked_from role one first) more → AskedSoFar role iface program index asked → AskedSoFar role iface program (index + 1) more
asked_more role iface program index f first one asked more lt is at added so_far = by role added so_far
  where
    params : (flow : Flow) (old new : List ℕ) → new ≡ old ++ called_from flow one.params first → Lists (params_called flow (record { functions = take index iface.functions }) program) old
        → Lists (params_called flow (record { functions = take (index + 1) iface.functions }) program) new
    params flow old new e =
        let place : first ≡ param program f 0 = let is = at.first_is in omega arith in
        called_more program (λ (one : FnIface). one.params) (λ f. param program f 0) flow iface.functions index f one old new lt is at.named (e ∙ ap (λ x. old ++ called_from flow one.params x) place)

    results : (flow : Flow) (old new : List ℕ) → new ≡ old ++ called_from flow one.results (first + length one.params)
        → Lists (results_called flow (record { functions = take index iface.functions }) program) old → Lists (results_called flow (record { functions = take (index + 1) iface.functions }) program) new
    results flow old new e =
        let place : first + length one.params ≡ result program f 0 = let is = at.first_is in let params = at.params in omega arith in
        called_more program (λ (one : FnIface). one.results) (λ f. result program f 0) flow iface.functions index f one old new lt is at.named (e ∙ ap (λ x. old ++ called_from flow one.results x) place)

    by : (role : Role) → Adds asked (asked_from role one first) more → AskedSoFar role iface program index asked → AskedSoFar role iface program (index + 1) more
    by Client added so_far = record {
      transient = results Transient asked.transient more.transient added.0 so_far.transient;
      stable = params Stable asked.stable more.stable added.1 so_far.stable;
    }
    by Library added so_far = record {
      transient = params Transient asked.transient more.transient added.0 so_far.transient;
      stable = results Stable asked.stable more.stable added.1 so_far.stable;
    }
