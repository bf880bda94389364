-- Where both parts pass under the interface, the joined program passes.
use Rattle.std.proofs.Common.{◌≡◌, ◌⊎◌, inl, inr, ℕ, zero, suc, ◌+◌, ◌-◌, ◌<◌, ◌≤◌, Bool, true, false, List, [], ◌∷◌, length, Option, Some, None, slice_get, IsTrue, refl, sym, ap, ◌∙◌, subst, arith}
use Rattle.std.specs.Prelude.{if◌then◌else◌, nat_lt, not, option_map, unwrap_or}
use Rattle.std.proofs.lemmas.Bool.{false≢true, ltb-true, ltb-false}
use Rattle.bl_base.proofs.Lists.{all_get, within_get}
use Rattle.bl_base.specs.declared.names.Flow.{Flow}
use Rattle.bl_base.specs.declared.names.Flow.TheVariants.{Stable, Transient}
use Rattle.bl_base.specs.declared.names.Role.TheVariants.{Client, Library}
use Rattle.bl_program.specs.Layout.{first_of, statics, param, params_of, result, results_of, command_at}
use Rattle.bl_program.specs.Programs.{IsProgram}
use Rattle.bl_program.specs.Rules.{IsOwn, IsFunction, IsResult, IsWellFormed, Rule2}
use Rattle.bl_program.specs.Sites.{is_protected}
use Rattle.bl_program.specs.declared.command.Command.{Command}
use Rattle.bl_program.specs.declared.command.Mark.{Mark}
use Rattle.bl_program.specs.declared.definitions.ProgramParts.{ProgramParts as Program}
use Rattle.bl_program.specs.declared.definitions.FunctionDef.{FunctionDef}
use Rattle.bl_program.proofs.Layouts.{next_first, number_is, result_own}
use Rattle.bl_program.proofs.VariableBounds.{own_small, readable_small}
use Rattle.bl_transient.specs.Transient.{Flows}
use Rattle.bl_iface.specs.JoinedProgram.{CanJoin, Renaming, client_numbers, client_shift, exported, goes, joined, library_numbers, library_shift, moved_var, owner}
use Rattle.bl_iface.specs.declared.shift.Shift.{Shift}
use Rattle.bl_iface.specs.InterfaceFunctions.{IsMatched, Matches}
use Rattle.bl_iface.specs.Roles.{FlowsAs, KeepsRole}
use Rattle.bl_iface.specs.declared.iface.FnIface.{FnIface}
use Rattle.bl_iface.specs.declared.iface.Iface.{Iface}
use Rattle.bl_iface.proofs.JoinedRules.{client_embeds, library_embeds}
use Rattle.bl_iface.proofs.JoinedReads.{gone, params_alike, read_cases, result_by, results_alike, stands_for}
use Rattle.bl_iface.proofs.ShiftedPart.{Shifted, moved_above, moved_cases, moved_own}
use Rattle.bl_iface.proofs.PartPlaces.{client_stands, command_of, library_stands}
use Rattle.bl_iface.proofs.PartTyping.{AtSite, Typed, flows_from, from_part, known, trap_keeps}
use Rattle.bl_iface.proofs.JoinedWeights.{client_mark, library_mark}

-- ---- the typing of the joined program

-- the first of two functions below a number, and the second from there on
abbrev pub split_at : ℕ → (ℕ → Bool) → (ℕ → Bool) → ℕ → Bool
split_at n low high y = if nat_lt y n then low y else high y

low_at : (n : ℕ) (low high : ℕ → Bool) (y : ℕ) → y < n → split_at n low high y ≡ low y
low_at n low high y lt = by (nat_lt y n) refl
  where
    by : (b : Bool) → nat_lt y n ≡ b → (if b then low y else high y) ≡ low y
    by true e = refl
    by false e = let le = ltb-false y n e in absurd (omega arith)

high_at : (n : ℕ) (low high : ℕ → Bool) (y : ℕ) → n ≤ y → split_at n low high y ≡ high y
high_at n low high y le = by (nat_lt y n) refl
  where
    by : (b : Bool) → nat_lt y n ≡ b → (if b then low y else high y) ≡ high y
    by true e = let lt = ltb-true y n e in absurd (omega arith)
    by false e = refl

module _ (client library : Program) (typing other : ℕ → Bool) where
  abbrev a : ℕ
  a = length client.globals

  abbrev b : ℕ
  b = length library.globals

  abbrev all : ℕ
  all = first_of client (length client.functions)

  -- behind the client's globals, the library's, the client's sizes, the library's, the client's own variables
  abbrev behind5 : ℕ → Bool
  behind5 y = other (y - all)

  abbrev client_own : ℕ → Bool
  client_own y = typing (y - statics library)

  abbrev behind4 : ℕ → Bool
  behind4 = split_at (statics library + all) client_own behind5

  abbrev library_sizes : ℕ → Bool
  library_sizes y = other (y - statics client)

  abbrev behind3 : ℕ → Bool
  behind3 = split_at (statics client + statics library) library_sizes behind4

  abbrev client_sizes : ℕ → Bool
  client_sizes y = typing (y - b)

  abbrev behind2 : ℕ → Bool
  behind2 = split_at (statics client + b) client_sizes behind3

  abbrev library_globals : ℕ → Bool
  library_globals y = other (y - a)

  abbrev behind1 : ℕ → Bool
  behind1 = split_at (a + b) library_globals behind2

  -- each part's on its variables
  abbrev pub joint : ℕ → Bool
  joint = split_at a typing behind1

  past1 : (y : ℕ) → a ≤ y → joint y ≡ behind1 y
  past1 y le = high_at a typing behind1 y le

  past2 : (y : ℕ) → a + b ≤ y → joint y ≡ behind2 y
  past2 y le = past1 y (omega arith) ∙ high_at (a + b) library_globals behind2 y le

  past3 : (y : ℕ) → statics client + b ≤ y → joint y ≡ behind3 y
  past3 y le = past2 y (omega arith) ∙ high_at (statics client + b) client_sizes behind3 y le

  past4 : (y : ℕ) → statics client + statics library ≤ y → joint y ≡ behind4 y
  past4 y le = past3 y (omega arith) ∙ high_at (statics client + statics library) library_sizes behind4 y le

  past5 : (y : ℕ) → statics library + all ≤ y → joint y ≡ behind5 y
  past5 y le = past4 y (omega arith) ∙ high_at (statics library + all) client_own behind5 y le

  pub client_typed : (x : ℕ) → x < all → joint (moved_var (client_shift library) client x) ≡ typing x
  client_typed x lt = elim (moved_cases (client_shift library) client x) as (λ _. joint (moved_var (client_shift library) client x) ≡ typing x) [
    | inl low ↦
        let less = low.0 in
        let same : x + 0 ≡ x = omega arith in
        ap joint (low.1 ∙ same) ∙ low_at a typing behind1 x less
    | inr rest ↦ elim rest as (λ _. joint (moved_var (client_shift library) client x) ≡ typing x) [
      | inl size ↦
          let le = size.0 in let less = size.1 in
          let same : x + b - b ≡ x = omega arith in
          ap joint size.2 ∙ past2 (x + b) (omega arith) ∙ low_at (statics client + b) client_sizes behind3 (x + b) (omega arith) ∙ ap typing same
      | inr far ↦
          let le = far.0 in
          let same : x + statics library - statics library ≡ x = omega arith in
          ap joint far.1 ∙ past4 (x + statics library) (omega arith) ∙ low_at (statics library + all) client_own behind5 (x + statics library) (omega arith) ∙ ap typing same
    ]
  ]

  pub library_typed : (x : ℕ) → joint (moved_var (library_shift client) library x) ≡ other x
  library_typed x =
      elim (moved_cases (library_shift client) library x) as (λ _. joint (moved_var (library_shift client) library x) ≡ other x) [
        | inl low ↦
            let less = low.0 in
            let same : x + a - a ≡ x = omega arith in
            ap joint low.1 ∙ past1 (x + a) (omega arith) ∙ low_at (a + b) library_globals behind2 (x + a) (omega arith) ∙ ap other same
        | inr rest ↦ elim rest as (λ _. joint (moved_var (library_shift client) library x) ≡ other x) [
          | inl size ↦
              let le = size.0 in let less = size.1 in
              let same : x + statics client - statics client ≡ x = omega arith in
              ap joint size.2 ∙ past3 (x + statics client) (omega arith) ∙ low_at (statics client + statics library) library_sizes behind4 (x + statics client) (omega arith) ∙ ap other same
          | inr far ↦
              let le = far.0 in
              let same : x + all - all ≡ x = omega arith in
              ap joint far.1 ∙ past5 (x + all) (omega arith) ∙ ap other same
        ]
      ]

-- ---- what is agreed of an index

some_flow : (flows : List Flow) (i : ℕ) → i < length flows → (slice_get flows i ≡ Some Stable) ⊎ (slice_get flows i ≡ Some Transient)
some_flow [] i lt = absurd (omega arith)
some_flow (Stable ∷ flows) zero lt = inl refl
some_flow (Transient ∷ flows) zero lt = inr refl
some_flow (flow ∷ flows) (suc i) lt = some_flow flows i (omega arith)

-- what one side is given, the other one owes
agreed : (flows : List Flow) (i : ℕ) (owed given : Bool) → i < length flows → (slice_get flows i ≡ Some Stable → IsTrue (not owed)) → (slice_get flows i ≡ Some Transient → IsTrue given)
    → IsTrue owed → IsTrue given
agreed flows i owed given lt stable transient t = elim (some_flow flows i lt) as (λ _. IsTrue given) [
  | inl s ↦ absurd (false≢true (ap not (sym t) ∙ stable s))
  | inr h ↦ transient h
]

-- parameters are a function's own variables
pub param_own : (program : Program) (f i : ℕ) → Rule2 program → f < length program.functions → i < params_of program f → IsOwn program f (param program f i)
param_own program f i rule lt less =
    let got = within_get program.functions f lt in
    let params : params_of program f ≡ length got.0.params = number_is (λ (d : FunctionDef). length d.params) program.functions f got.0 got.1 in
    let next = next_first program f got.0 got.1 in
    let room = (all_get IsFunction program.functions f got.0 rule.each got.1).variables in
    (omega arith, omega arith)

-- a parameter where its function stands
param_moved : (part whole : Program) (shift : Shift) (n : Renaming) → Shifted part whole shift n → (f i : ℕ) → f < length part.functions
    → param whole (shift.functions + f) i ≡ moved_var shift part (param part f i)
param_moved part whole shift n s f i lt =
    let first = s.firsts f (omega arith) in
    let is = moved_own shift part (param part f i) (omega arith) in
    omega arith

module _ (client library : Program) (iface : Iface) (facts : IsProgram client) (well : IsWellFormed client) (other_facts : IsProgram library) (other_well : IsWellFormed library)
    (can : CanJoin client library iface) (matches : Matches client iface)
    (typing other : ℕ → Bool) (flows : FlowsAs Client iface client typing (is_protected client)) (other_flows : FlowsAs Library iface library other (is_protected library)) where
  abbrev whole : Program
  whole = joined client library iface

  abbrev all_typing : ℕ → Bool
  all_typing = joint client library typing other

  -- what the interface says of a function that goes to the library
  record Goes (f g : ℕ) : Type 0 where
    one : FnIface
    exists : g < length library.functions
    params : params_of library g ≡ params_of client f
    results : results_of library g ≡ results_of client f
    has_params : params_of client f ≡ length one.params
    has_results : results_of client f ≡ length one.results
    ours : KeepsRole Client one client typing f
    theirs : KeepsRole Library one library other g

  abbrev Says : FnIface → Type 0
  Says one = IsMatched client one × ((f : ℕ) → exported client.exports one.name ≡ Some f → KeepsRole Client one client typing f)
      × ((g : ℕ) → exported library.exports one.name ≡ Some g → KeepsRole Library one library other g)

  said : (f g : ℕ) → goes iface client library f ≡ Some g → Goes f g
  said f g e =
      let by = stands_for Says iface.functions client library f g (λ k d lt. (matches k d lt, flows.sides k d lt, other_flows.sides k d lt)) e in
      let there = gone client library iface facts well other_facts other_well can.types f g e in
      let many = known (exported client.exports by.0.name) f (λ f. (params_of client f ≡ length by.0.params) × (results_of client f ≡ length by.0.results)) by.1.0 by.2 in
      record {
        one = by.0;
        exists = there.0;
        params = sym (params_alike client library f g there.1);
        results = sym (results_alike client library f g there.1);
        has_params = many.0;
        has_results = many.1;
        ours = by.1.1 f by.2;
        theirs = by.1.2 g by.3;
      }

  -- a parameter that the client makes transient is one that the library takes as transient
  arg_by : (f i : ℕ) (o : Option ℕ) → goes iface client library f ≡ o → f < length client.functions → i < params_of client f → IsTrue (typing (param client f i))
      → IsTrue (all_typing (param whole (unwrap_or (option_map (λ g. length client.functions + g) o) f) i))
  arg_by f i None e lt in_range t =
      let same : 0 + f ≡ f = omega arith in
      ap (λ k. all_typing (param whole k i)) (sym same)
      ∙ ap all_typing (param_moved client whole (client_shift library) (client_numbers iface client library) (client_stands client library iface facts other_facts) f i lt)
      ∙ client_typed client library typing other (param client f i) (own_small client well.rule2 f (param client f i) (param_own client f i well.rule2 lt in_range)) ∙ t
  arg_by f i (Some g) e lt in_range t =
      let s = said f g e in
      let params = s.has_params in
      ap all_typing (param_moved library whole (library_shift client) (library_numbers client library) (library_stands client library iface facts other_facts) g i s.exists)
      ∙ library_typed client library typing other (param library g i)
      ∙ agreed s.one.params i (typing (param client f i)) (other (param library g i)) (omega arith) (s.ours.0 i) (s.theirs.0 i) t

  -- a result that the library makes transient is one that the client takes as transient
  read_by : (f x : ℕ) (o : Option ℕ) → goes iface client library f ≡ o → IsResult client f x → IsOwn client f x → IsTrue (all_typing (result_by client library f o x)) → IsTrue (typing x)
  read_by f x None e h own t = sym (client_typed client library typing other x (own_small client well.rule2 f x own)) ∙ t
  read_by f x (Some g) e h own t =
      let s = said f g e in
      let i : ℕ = x - result client f 0 in
      let low = h.0 in let high = h.1 in
      let results = s.has_results in
      let there : IsTrue (other (result library g i)) = sym (library_typed client library typing other (result library g i)) ∙ t in
      let same : result client f i ≡ x = omega arith in
      subst (λ k. IsTrue (typing k)) same (agreed s.one.results i (other (result library g i)) (typing (result client f i)) (omega arith) (s.theirs.1 i) (s.ours.1 i) there)

  client_agrees : Typed client whole (client_shift library) (client_numbers iface client library) typing all_typing
  client_agrees = record {
    same = client_typed client library typing other;
    reads = λ f x lt h t. elim (read_cases client library iface x) as (λ _. IsTrue (typing x)) [
      | inl plain ↦ sym (client_typed client library typing other x (readable_small client well.rule2 f x h)) ∙ ap all_typing (sym plain.1) ∙ t
      | inr one ↦ read_by (owner client x) x (goes iface client library (owner client x)) refl one.0 (result_own client (owner client x) x well.rule2 one.0) (ap all_typing (sym one.1) ∙ t)
    ];
    args = λ f i lt in_range t. arg_by f i (goes iface client library f) refl lt in_range t;
  }

  library_agrees : Typed library whole (library_shift client) (library_numbers client library) other all_typing
  library_agrees = record {
    same = λ x lt. library_typed client library typing other x;
    reads = λ f x lt h t. sym (library_typed client library typing other x) ∙ t;
    args = λ g i lt in_range t.
        ap all_typing (param_moved library whole (library_shift client) (library_numbers client library) (library_stands client library iface facts other_facts) g i lt)
        ∙ library_typed client library typing other (param library g i) ∙ t;
  }

  -- ---- all commands

  abbrev protected : Option Mark → Bool
  protected mark = unwrap_or (option_map (λ (mark : Mark). mark.protect) mark) false

  at_each : (s : ℕ) (c : Command) → command_at whole s ≡ Some c → AtSite whole all_typing (is_protected whole) s c
  at_each s c stands = elim (command_of client library iface facts other_facts s c stands) as (λ _. AtSite whole all_typing (is_protected whole) s c) [
    | inl trap ↦ subst (AtSite whole all_typing (is_protected whole) s) (sym trap.2) (trap_keeps whole all_typing (is_protected whole) s trap.1)
    | inr some ↦ elim some as (λ _. AtSite whole all_typing (is_protected whole) s c) [
      | inl mine ↦ from_part client whole (client_shift library) (client_numbers iface client library) typing all_typing (is_protected client)
          (client_stands client library iface facts other_facts) (client_embeds client library iface facts well other_facts other_well can.types) (λ x. refl) client_agrees well flows.flows
          facts (is_protected whole)
          (λ p le lt. let same : p + 0 ≡ p = omega arith in
          (moved_above (client_shift library) p le, ap (is_protected whole) same ∙ ap protected (client_mark client library iface facts well other_facts other_well p lt))) s c mine
      | inr its ↦ from_part library whole (library_shift client) (library_numbers client library) other all_typing (is_protected library)
          (library_stands client library iface facts other_facts) (library_embeds client library iface facts well other_facts other_well can.types) (λ x. refl) library_agrees other_well other_flows.flows
          other_facts (is_protected whole)
          (λ p le lt. (moved_above (library_shift client) p le, ap protected (library_mark client library iface facts well other_facts other_well (p + (length client.commands - 7)) p le refl))) s c its
    ]
  ]

  pub joined_flows : Flows (joined client library iface) (joint client library typing other) (is_protected (joined client library iface))
  joined_flows = flows_from whole all_typing (is_protected whole) at_each
