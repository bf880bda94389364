-- What a role asks, as tests, is what it asks; and a set passes under it, or there is a position that tells why it doesn't.
use Rattle.std.proofs.Common.{◌≡◌, inl, inr, ℕ, ◌+◌, ◌-◌, ◌<◌, Bool, true, false, List, [], ◌∷◌, length, get_or, Option, Some, None, slice_get, IsTrue, refl, sym, ap, ◌∙◌, subst, arith}
use Rattle.std.specs.Prelude.{◌↔◌, nat_le, not, option_map, unwrap_or}
use Rattle.std.specs.List.{All, list_any}
use Rattle.std.proofs.lemmas.Bool.{and_from, and_parts, false≢true, le-leb, leb-true, or_cases, or_left, or_right}
use Rattle.std.proofs.lemmas.List.Elements.{All-cons, All-head, All-tail}
use Rattle.std.proofs.lemmas.Option.{slice_get_within}
use Rattle.bl_base.proofs.BoolLemmas.{never_both}
use Rattle.bl_base.specs.declared.names.Flow.{Flow}
use Rattle.bl_base.specs.declared.names.Flow.TheVariants.{Stable, Transient}
use Rattle.bl_base.specs.declared.names.Role.{Role}
use Rattle.bl_base.specs.declared.names.Role.TheVariants.{Client, Library}
use Rattle.bl_program.specs.Layout.{first_of, param, params_of, result, results_of}
use Rattle.bl_program.specs.Rules.{IsOwn, Rule2, Rule3}
use Rattle.bl_program.proofs.Layouts.{own_apart, result_own}
use Rattle.bl_iface.proofs.JoinedReads.{exported_exists}
use Rattle.bl_iface.proofs.PartTyping.{known}
use Rattle.bl_iface.proofs.JoinedTyping.{param_own}
use Rattle.bl_program.specs.declared.definitions.ProgramParts.{ProgramParts as Program}
use Rattle.bl_program.proofs.VariableBounds.{own_small}
use Rattle.bl_transient.specs.Transient.{Flows, Asked, FlowsUnder, TransUnder}
use Rattle.bl_iface.specs.JoinedProgram.{exported}
use Rattle.bl_iface.specs.InterfaceFunctions.{Matches}
use Rattle.bl_iface.specs.Roles.{FlowsAs}
use Rattle.bl_transient.specs.Verdicts.{IsBad, load, sink, site}
use Rattle.bl_transient.proofs.BarredUses.{stable_bad}
use Rattle.bl_transient.proofs.LeastTypings.{exact_flows, trans_least}
use Rattle.bl_iface.specs.RoleTests.{asked, is_called, is_flow, params_called, results_called}
use Rattle.bl_iface.specs.declared.iface.FnIface.{FnIface}
use Rattle.bl_iface.specs.declared.iface.Iface.{Iface}

-- ---- tests of variables

flow_is : (flow : Flow) (o : Option Flow) → is_flow flow o ≡ true → o ≡ Some flow
flow_is Stable (Some Stable) e = refl
flow_is Stable (Some Transient) e = absurd (false≢true e)
flow_is Stable None e = absurd (false≢true e)
flow_is Transient (Some Transient) e = refl
flow_is Transient (Some Stable) e = absurd (false≢true e)
flow_is Transient None e = absurd (false≢true e)

is_itself : (flow : Flow) → is_flow flow (Some flow) ≡ true
is_itself Stable = refl
is_itself Transient = refl

-- a variable that is called so has an index
called_index : (flow : Flow) (flows : List Flow) (first x : ℕ) → IsTrue (is_called flow flows first x) → (i : ℕ) × (x ≡ first + i) × (slice_get flows i ≡ Some flow)
called_index flow flows first x h =
    let both = and_parts (nat_le first x) (is_flow flow (slice_get flows (x - first))) h in
    let le = leb-true first x both.0 in
    (x - first, omega arith, flow_is flow (slice_get flows (x - first)) both.1)

index_called : (flow : Flow) (flows : List Flow) (first i : ℕ) → slice_get flows i ≡ Some flow → IsTrue (is_called flow flows first (first + i))
index_called flow flows first i e =
    let same : first + i - first ≡ i = omega arith in
    and_from (nat_le first (first + i)) (is_flow flow (slice_get flows (first + i - first))) (le-leb first (first + i) (omega arith))
    (ap (λ k. is_flow flow (slice_get flows k)) same ∙ ap (is_flow flow) e ∙ is_itself flow)

-- ---- some function of the interface, and each

module _ (program : Program) (lists : FnIface → List Flow) (firsts : ℕ → ℕ) (flow : Flow) where
  abbrev pub Called : FnIface → ℕ → Bool
  Called one x = unwrap_or (option_map (λ f. is_called flow (lists one) (firsts f) x) (exported program.exports one.name)) false

  abbrev pub Each : (ℕ → Type 0) → FnIface → Type 0
  Each P one = (f : ℕ) → exported program.exports one.name ≡ Some f → (i : ℕ) → slice_get (lists one) i ≡ Some flow → P (firsts f + i)

  -- what some function calls so, it calls so at an index
  pub some_called : (functions : List FnIface) (P : ℕ → Type 0)
      → All (Each P) functions
      → (x : ℕ) → IsTrue (list_any (λ one. Called one x) functions) → P x
  some_called [] P all x h = absurd (false≢true h)
  some_called (one ∷ others) P all x h =
      elim (or_cases (Called one x) (list_any (λ one. Called one x) others) h) as (λ _. P x) [
        | inl this ↦ by (exported program.exports one.name) refl this
        | inr rest ↦ some_called others P (All-tail (Each P) one others all) x rest
      ]
    where
      by : (o : Option ℕ) → exported program.exports one.name ≡ o → unwrap_or (option_map (λ f. is_called flow (lists one) (firsts f) x) o) false ≡ true → P x
      by None e t = absurd (false≢true t)
      by (Some f) e t =
          let found = called_index flow (lists one) (firsts f) x t in
          subst P (sym found.1) (All-head (Each P) one others all f e found.0 found.2)

  -- what each that is called so has, each function's has
  pub each_called : (functions : List FnIface) (P : ℕ → Type 0) → ((x : ℕ) → IsTrue (list_any (λ one. Called one x) functions) → P x)
      → All (Each P) functions
  each_called [] P all = λ k d lt. absurd (omega arith)
  each_called (one ∷ others) P all =
      All-cons (Each P) one others
      (λ f e i h. all (firsts f + i) (or_left (Called one (firsts f + i)) (list_any (λ one. Called one (firsts f + i)) others)
      (ap (λ o. unwrap_or (option_map (λ f'. is_called flow (lists one) (firsts f') (firsts f + i)) o) false) e ∙ index_called flow (lists one) (firsts f) i h)))
      (each_called others P (λ x h. all x (or_right (Called one x) (list_any (λ one. Called one x) others) h)))

-- ---- the two forms are one

module _ (iface : Iface) (program : Program) (typing set : ℕ → Bool) where
  abbrev IsTransientVariable : ℕ → Type 0
  IsTransientVariable x = IsTrue (typing x)

  abbrev Firm : ℕ → Type 0
  Firm x = IsTrue (not (typing x))

  param_at : (f i : ℕ) → param program f i ≡ param program f 0 + i
  param_at f i = omega arith

  result_at : (f i : ℕ) → result program f i ≡ result program f 0 + i
  result_at f i = omega arith

  pub under_from_as : (role : Role) → FlowsAs role iface program typing set → FlowsUnder (asked role iface program) program typing set
  under_from_as Library h = record {
    assigns = record {
      loads = h.flows.assigns.loads;
      moves = h.flows.assigns.moves;
      given = some_called program (λ one. one.params) (λ f. param program f 0) Transient iface.functions IsTransientVariable (λ k d lt f e i is. subst IsTransientVariable (param_at f i) ((h.sides k d lt f e).0 i is));
    };
    sinks = h.flows.sinks;
    stable = some_called program (λ one. one.results) (λ f. result program f 0) Stable iface.functions Firm (λ k d lt f e i is. subst Firm (result_at f i) ((h.sides k d lt f e).1 i is));
  }
  under_from_as Client h = record {
    assigns = record {
      loads = h.flows.assigns.loads;
      moves = h.flows.assigns.moves;
      given = some_called program (λ one. one.results) (λ f. result program f 0) Transient iface.functions IsTransientVariable (λ k d lt f e i is. subst IsTransientVariable (result_at f i) ((h.sides k d lt f e).1 i is));
    };
    sinks = h.flows.sinks;
    stable = some_called program (λ one. one.params) (λ f. param program f 0) Stable iface.functions Firm (λ k d lt f e i is. subst Firm (param_at f i) ((h.sides k d lt f e).0 i is));
  }

  flows_of : (role : Role) → FlowsUnder (asked role iface program) program typing set → Flows program typing set
  flows_of role h = record { assigns = record { loads = h.assigns.loads; moves = h.assigns.moves; given = λ x h. cc }; sinks = h.sinks; stable = λ x h. cc }

  pub as_from_under : (role : Role) → FlowsUnder (asked role iface program) program typing set → FlowsAs role iface program typing set
  as_from_under Library h =
      let transient = each_called program (λ one. one.params) (λ f. param program f 0) Transient iface.functions IsTransientVariable h.assigns.given in
      let stable = each_called program (λ one. one.results) (λ f. result program f 0) Stable iface.functions Firm h.stable in
      record {
        flows = flows_of Library h;
        sides = λ k d lt f e. (λ i is. subst IsTransientVariable (sym (param_at f i)) (transient k d lt f e i is), λ i is. subst Firm (sym (result_at f i)) (stable k d lt f e i is));
      }
  as_from_under Client h =
      let transient = each_called program (λ one. one.results) (λ f. result program f 0) Transient iface.functions IsTransientVariable h.assigns.given in
      let stable = each_called program (λ one. one.params) (λ f. param program f 0) Stable iface.functions Firm h.stable in
      record {
        flows = flows_of Client h;
        sides = λ k d lt f e. (λ i is. subst Firm (sym (param_at f i)) (stable k d lt f e i is), λ i is. subst IsTransientVariable (sym (result_at f i)) (transient k d lt f e i is));
      }

-- ---- a set passes, or there is a position that tells why it doesn't

module _ (asks : Asked) (program : Program) (set : ℕ → Bool) where
  pub bad_fails : (typing : ℕ → Bool) (position : ℕ) → FlowsUnder asks program typing set → IsBad asks program set position → ⊥
  bad_fails typing position h (sink x reads t) = never_both (typing x) (trans_least asks program typing set x h.assigns t) (h.sinks position x reads)
  bad_fails typing position h (load y is writes may stable) = never_both (typing y) (h.assigns.loads position y is writes may) (h.stable y stable)
  bad_fails typing position h (site x y reads t writes may stable) =
      never_both (typing y) (h.assigns.moves position x y reads writes may (trans_least asks program typing set x h.assigns t)) (h.stable y stable)

  -- where nothing is asked to be both
  pub none_passes : ((x : ℕ) → IsTrue (asks.transient x) → IsTrue (asks.stable x) → ⊥) → (typing : ℕ → Bool) → ((x : ℕ) → IsTrue (typing x) ↔ TransUnder asks program set x)
      → ((position : ℕ) → IsBad asks program set position → ⊥) → FlowsUnder asks program typing set
  none_passes apart typing exact none =
      exact_flows asks program set typing exact (λ position x reads t. none position (sink x reads t)) (λ x stable t. let bad = stable_bad asks program set apart x stable t in none bad.0 bad.1)

-- ---- parameters are no results

module _ (iface : Iface) (program : Program) (rule2 : Rule2 program) (rule3 : Rule3 program) (matches : Matches program iface) where
  abbrev IsParam : ℕ → Type 0
  IsParam x = (f : ℕ) × (i : ℕ) × (f < length program.functions) × (i < params_of program f) × (x ≡ param program f i)

  abbrev IsSomeResult : ℕ → Type 0
  IsSomeResult x = (f : ℕ) × (i : ℕ) × (i < results_of program f) × (x ≡ result program f i)

  counts : (k : ℕ) (d : FnIface) → k < length iface.functions → (f : ℕ) → exported program.exports (get_or iface.functions k d).name ≡ Some f
      → (params_of program f ≡ length (get_or iface.functions k d).params) × (results_of program f ≡ length (get_or iface.functions k d).results)
  counts k d lt f e = known (exported program.exports (get_or iface.functions k d).name) f
      (λ f. (params_of program f ≡ length (get_or iface.functions k d).params) × (results_of program f ≡ length (get_or iface.functions k d).results)) (matches k d lt) e

  param_is : (flow : Flow) (x : ℕ) → IsTrue (params_called flow iface program x) → IsParam x
  param_is flow = some_called program (λ one. one.params) (λ f. param program f 0) flow iface.functions IsParam (λ k d lt f e i is.
      let many = counts k d lt f e in
      let within = slice_get_within (get_or iface.functions k d).params i flow is in
      (f, i, exported_exists program.exports (get_or iface.functions k d).name f (length program.functions) rule3.exist e, omega (arith, many.0), omega arith))

  result_is : (flow : Flow) (x : ℕ) → IsTrue (results_called flow iface program x) → IsSomeResult x
  result_is flow = some_called program (λ one. one.results) (λ f. result program f 0) flow iface.functions IsSomeResult (λ k d lt f e i is.
      let many = counts k d lt f e in
      let within = slice_get_within (get_or iface.functions k d).results i flow is in
      (f, i, omega (arith, many.1), omega arith))

  param_in : (x : ℕ) → (h : IsParam x) → IsOwn program h.0 x
  param_in x h = subst (IsOwn program h.0) (sym h.4) (param_own program h.0 h.1 rule2 h.2 h.3)

  result_in : (x : ℕ) → (h : IsSomeResult x) → IsOwn program h.0 x
  result_in x h = subst (IsOwn program h.0) (sym h.3) (result_own program h.0 (result program h.0 h.1) rule2 (let lt = h.2 in (omega arith, omega arith)))

  no_both : (x : ℕ) → IsParam x → IsSomeResult x → ⊥
  no_both x p r =
      let f : ℕ = p.0 in
      let g : ℕ = r.0 in
      let mine : IsOwn program f x = param_in x p in
      let its : IsOwn program g x = result_in x r in
      let same : g ≡ f = own_apart program g f x its mine in
      let at : x ≡ result program f r.1 = r.3 ∙ ap (λ k. result program k r.1) same in
      let lt = p.3 in let is = p.4 in
      omega arith

  pub asked_apart : (role : Role) (x : ℕ) → IsTrue ((asked role iface program).transient x) → IsTrue ((asked role iface program).stable x) → ⊥
  asked_apart Library x transient stable = no_both x (param_is Transient x transient) (result_is Stable x stable)
  asked_apart Client x transient stable = no_both x (param_is Stable x stable) (result_is Transient x transient)

  -- both are variables of the program
  param_small : (x : ℕ) → IsParam x → x < first_of program (length program.functions)
  param_small x h = own_small program rule2 h.0 x (param_in x h)

  result_small : (x : ℕ) → IsSomeResult x → x < first_of program (length program.functions)
  result_small x h = own_small program rule2 h.0 x (result_in x h)

  pub transient_small : (role : Role) (x : ℕ) → IsTrue ((asked role iface program).transient x) → x < first_of program (length program.functions)
  transient_small Library x transient = param_small x (param_is Transient x transient)
  transient_small Client x transient = result_small x (result_is Transient x transient)

  pub stable_small : (role : Role) (x : ℕ) → IsTrue ((asked role iface program).stable x) → x < first_of program (length program.functions)
  stable_small Library x stable = result_small x (result_is Stable x stable)
  stable_small Client x stable = param_small x (param_is Stable x stable)
