-- Where the client's functions go, by the functions of the interface in both programs.
use Rattle.std.proofs.Common.{◌≡◌, inl, inr, ℕ, suc, ◌<◌, ◌≤◌, Bool, true, false, List, [], ◌∷◌, length, drop, get_or, set, Option, Some, None, slice_get, refl, sym, ap, ◌∙◌, arith, nat_eq, eq-eqb}
use Rattle.std.specs.Prelude.{if◌then◌else◌, option_map, replicate, unwrap_or}
use Rattle.std.proofs.lemmas.Bool.{cases_lt, eqb-true, false≢true}
use Rattle.std.proofs.lemmas.List.{drop_all, drop_more, get_or-set_same, get_or-set_other}
use Rattle.std.proofs.lemmas.Option.{slice_get_past, unwrap_or-slice_get}
use Rattle.bl_base.proofs.Lists.{replicate_or}
use Rattle.bl_program.specs.Rules.{IsWellFormed}
use Rattle.bl_program.specs.declared.definitions.ProgramParts.{ProgramParts as Program}
use Rattle.bl_iface.specs.JoinedProgram.{exported, goes, goes_by}
use Rattle.bl_iface.specs.InterfaceFunctions.{AreTargets}
use Rattle.bl_iface.specs.PartNumbers.{LeadsTo, goal_in}
use Rattle.bl_iface.specs.declared.iface.FnIface.{FnIface}
use Rattle.bl_iface.specs.declared.iface.Iface.{Iface}
use Rattle.bl_iface.proofs.JoinedReads.{exported_exists, stands_for}

-- where a function goes, by the first of those that go somewhere that is it
abbrev pub goal_by : List ℕ → List ℕ → ℕ → Option ℕ
goal_by [] theirs f = None
goal_by (one ∷ ours) [] f = None
goal_by (one ∷ ours) (other ∷ theirs) f = if nat_eq f one then Some other else goal_by ours theirs f

goal_of : (functions : List FnIface) (ours theirs : List ℕ) (client library : Program) (f : ℕ) → length ours ≡ length functions → length theirs ≡ length functions
    → ((k : ℕ) (one : FnIface) → slice_get functions k ≡ Some one → exported client.exports one.name ≡ Some (get_or ours k 0))
    → ((k : ℕ) (one : FnIface) → slice_get functions k ≡ Some one → exported library.exports one.name ≡ Some (get_or theirs k 0))
    → goal_by ours theirs f ≡ goes_by functions client library f
goal_of [] [] theirs client library f many also each other = refl
goal_of [] (o ∷ ours) theirs client library f many also each other = absurd (omega arith)
goal_of (one ∷ functions) [] theirs client library f many also each other = absurd (omega arith)
goal_of (one ∷ functions) (o ∷ ours) [] client library f many also each other = absurd (omega arith)
goal_of (one ∷ functions) (o ∷ ours) (t ∷ theirs) client library f many also each other =
    let rest = goal_of functions ours theirs client library f (omega arith) (omega arith) (λ k x. each (suc k) x) (λ k x. other (suc k) x) in
    ap (λ (r : Option ℕ). if nat_eq f o then Some t else r) rest
    ∙ ap (λ (e : Option ℕ). if unwrap_or (option_map (nat_eq f) e) false then Some t else goes_by functions client library f) (sym (each 0 one refl))
    ∙ ap (λ (e : Option ℕ). if unwrap_or (option_map (nat_eq f) (exported client.exports one.name)) false then e else goes_by functions client library f) (sym (other 0 one refl))

-- what is no function of the client goes nowhere
beyond : (client library : Program) (iface : Iface) (f : ℕ) (o : Option ℕ) → IsWellFormed client → length client.functions ≤ f → goes iface client library f ≡ o → o ≡ None
beyond client library iface f None well past e = refl
beyond client library iface f (Some g) well past e =
    let by = stands_for (λ _. Unit {0}) iface.functions client library f g (λ i d lt. tt) e in
    let lt = exported_exists client.exports by.0.name f (length client.functions) well.rule3.exist by.2 in
    absurd (omega arith)

-- the whole table
pub table_leads : (client library : Program) (iface : Iface) (ours theirs : List ℕ) (goals : List (Option ℕ)) → IsWellFormed client
    → AreTargets client iface ours → AreTargets library iface theirs → length goals ≡ length client.functions
    → ((f : ℕ) → f < length client.functions → goal_in goals f ≡ goal_by ours theirs f) → LeadsTo iface client library goals
table_leads client library iface ours theirs goals well one other many each f = elim (cases_lt f (length client.functions)) as (λ _. goal_in goals f ≡ goes iface client library f) [
  | inl lt ↦ each f lt ∙ goal_of iface.functions ours theirs client library f one.many other.many one.each other.each
  | inr past ↦ ap (λ o. unwrap_or o None) (slice_get_past goals f (omega arith)) ∙ sym (beyond client library iface f (goes iface client library f) well past refl)
]

-- ---- the table, made from the end

pub goals_more : (ours theirs : List ℕ) (left here n : ℕ) (goals new : List (Option ℕ)) → left ≤ length ours → left ≡ suc here → length ours ≡ length theirs → length goals ≡ n
    → get_or ours here 0 < n → new ≡ set goals (get_or ours here 0) (Some (get_or theirs here 0))
    → ((f : ℕ) → f < n → goal_in goals f ≡ goal_by (drop left ours) (drop left theirs) f)
    → (f : ℕ) → f < n → goal_in new f ≡ goal_by (drop here ours) (drop here theirs) f
goals_more ours theirs left here n goals new within next same many small is so_far f lt =
    let one : drop here ours ≡ o ∷ drop left ours = drop_more ours here 0 (omega arith) ∙ ap (λ k. o ∷ drop k ours) (omega arith) in
    let two : drop here theirs ≡ t ∷ drop left theirs = drop_more theirs here 0 (omega arith) ∙ ap (λ k. t ∷ drop k theirs) (omega arith) in
    ap (λ (g : List (Option ℕ)). goal_in g f) is
    ∙ unwrap_or-slice_get (set goals o (Some t)) f None
    ∙ by (nat_eq f o) refl
    ∙ ap (λ xs. goal_by xs (t ∷ drop left theirs) f) (sym one) ∙ ap (λ ys. goal_by (drop here ours) ys f) (sym two)
  where
    o : ℕ
    o = get_or ours here 0

    t : ℕ
    t = get_or theirs here 0

    by : (b : Bool) → nat_eq f o ≡ b → get_or (set goals o (Some t)) f None ≡ (if b then Some t else goal_by (drop left ours) (drop left theirs) f)
    by true e = ap (λ k. get_or (set goals o (Some t)) k None) (eqb-true f o e) ∙ get_or-set_same goals o (Some t) None (omega arith)
    by false e = get_or-set_other goals o f (Some t) None (λ same. false≢true (sym e ∙ eq-eqb f o same)) ∙ sym (unwrap_or-slice_get goals f None) ∙ so_far f lt

-- at first nothing goes anywhere
pub goals_none : (ours theirs : List ℕ) (n f : ℕ) (goals : List (Option ℕ)) → goals ≡ replicate n None → goal_in goals f ≡ goal_by (drop (length ours) ours) (drop (length ours) theirs) f
goals_none ours theirs n f goals is =
    ap (λ (g : List (Option ℕ)). goal_in g f) is ∙ unwrap_or-slice_get (replicate n None) f None ∙ replicate_or n f None
    ∙ ap (λ xs. goal_by xs (drop (length ours) theirs) f) (sym (drop_all (length ours) ours (omega arith)))
