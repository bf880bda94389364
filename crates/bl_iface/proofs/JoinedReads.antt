-- What commands of the joined program read and call.
use Rattle.std.proofs.Common.{◌≡◌, ◌⊎◌, inl, inr, ℕ, suc, ◌+◌, ◌-◌, ◌<◌, Bool, true, false, List, [], ◌∷◌, length, map, Option, Some, None, slice_get, refl, sym, ap, ◌∙◌, subst, arith}
use Rattle.std.specs.Prelude.{if◌then◌else◌, nat_eq, nat_lt, option_map, unwrap_or}
use Rattle.std.specs.List.{All}
use Rattle.std.specs.Str.{bytes_eq}
use Rattle.std.proofs.lemmas.Bool.{eqb-true, false≢true, ltb-true, ltb-false}
use Rattle.std.proofs.lemmas.List.{length-map}
use Rattle.std.proofs.lemmas.List.Elements.{All-drop, All-get_or, All-head, All-tail}
use Rattle.std.proofs.lemmas.Option.{none-some, same_Some}
use Rattle.bl_base.specs.declared.names.ValueType.{ValueType}
use Rattle.bl_program.specs.Layout.{statics, params_of, results_of, result}
use Rattle.bl_program.specs.Programs.{IsProgram}
use Rattle.bl_program.specs.Rules.{IsLocal, IsOwn, IsReadable, IsResult, IsWellFormed, IsWritable}
use Rattle.bl_program.specs.declared.definitions.ExportDef.{ExportDef}
use Rattle.bl_program.specs.declared.definitions.FunctionDef.{FunctionDef}
use Rattle.bl_program.specs.declared.definitions.ProgramParts.{ProgramParts as Program}
use Rattle.bl_program.proofs.Layouts.{first_below, holding_is, own_exists}
use Rattle.bl_iface.specs.JoinedProgram.{HasSameTypes, client_numbers, client_read, client_shift, exported, goes, goes_by, joined, library_numbers, library_shift, moved_var, owner, result_from, types_of}
use Rattle.bl_iface.specs.declared.iface.FnIface.{FnIface}
use Rattle.bl_iface.specs.declared.iface.Iface.{Iface}
use Rattle.bl_iface.proofs.ShiftedPart.{Reads, Shifted, is_result_moved, moved_apart, moved_own, params_same, reads_moved}
use Rattle.bl_iface.proofs.PartPlaces.{client_stands, library_stands}

-- where a client's result is read from, if its function goes there
abbrev pub result_by : Program → Program → ℕ → Option ℕ → ℕ → ℕ
result_by client library = result_from (client_shift library) client (library_shift client) library

-- ---- functions that stand for others

-- an exported function exists
pub exported_exists : (exports : List ExportDef) (name : List ℕ) (g most : ℕ) → All (λ entry. entry.function < most) exports → exported exports name ≡ Some g → g < most
exported_exists [] name g most all e = absurd (none-some g e)
exported_exists (export ∷ exports) name g most all e =
    by (bytes_eq name export.name) (exported_exists exports name g most (All-drop (λ (entry : ExportDef). entry.function < most) 1 (export ∷ exports) all)) e
  where
    by : (b : Bool) → (exported exports name ≡ Some g → g < most) → (if b then Some export.function else exported exports name) ≡ Some g → g < most
    by true rest e = subst (λ k. k < most) (same_Some _ _ e) (All-get_or (λ (entry : ExportDef). entry.function < most) (export ∷ exports) 0 export (omega arith) all)
    by false rest e = rest e

-- the name of a function
named : (f : ℕ) (o : Option ℕ) → unwrap_or (option_map (nat_eq f) o) false ≡ true → o ≡ Some f
named f None e = absurd (false≢true e)
named f (Some g) e = ap Some (sym (eqb-true f g e))

-- the function of the interface by which a client's goes to the library
pub stands_for : (P : FnIface → Type 0) (functions : List FnIface) (client library : Program) (f g : ℕ) → All P functions → goes_by functions client library f ≡ Some g
    → (one : FnIface) × P one × (exported client.exports one.name ≡ Some f) × (exported library.exports one.name ≡ Some g)
stands_for P [] client library f g all e = absurd (none-some g e)
stands_for P (one ∷ others) client library f g all e =
    by (unwrap_or (option_map (nat_eq f) (exported client.exports one.name)) false) (stands_for P others client library f g (All-tail P one others all)) refl e
  where
    by : (b : Bool) → (goes_by others client library f ≡ Some g → (one : FnIface) × P one × (exported client.exports one.name ≡ Some f) × (exported library.exports one.name ≡ Some g))
        → unwrap_or (option_map (nat_eq f) (exported client.exports one.name)) false ≡ b
        → (if b then exported library.exports one.name else goes_by others client library f) ≡ Some g
        → (one : FnIface) × P one × (exported client.exports one.name ≡ Some f) × (exported library.exports one.name ≡ Some g)
    by true rest is e = (one, All-head P one others all, named f (exported client.exports one.name) is, e)
    by false rest is e = rest e

-- functions of the same types have as many parameters and results
abbrev Types : Type 0
Types = List ValueType × List ValueType

abbrev types : FunctionDef → Types
types f = (map (λ p. p.kind) f.params, f.results)

count_params : (o : Option FunctionDef) → unwrap_or (option_map (λ (f : FunctionDef). length f.params) o) 0 ≡ unwrap_or (option_map (λ (t : Types). length t.0) (option_map types o)) 0
count_params None = refl
count_params (Some f) = sym (length-map f.params _)

count_results : (o : Option FunctionDef) → unwrap_or (option_map (λ (f : FunctionDef). length f.results) o) 0 ≡ unwrap_or (option_map (λ (t : Types). length t.1) (option_map types o)) 0
count_results None = refl
count_results (Some f) = refl

pub params_alike : (one other : Program) (f g : ℕ) → types_of one f ≡ types_of other g → params_of one f ≡ params_of other g
params_alike one other f g e =
    count_params (slice_get one.functions f) ∙ ap (λ o. unwrap_or (option_map (λ (t : Types). length t.0) o) 0) e ∙ sym (count_params (slice_get other.functions g))

pub results_alike : (one other : Program) (f g : ℕ) → types_of one f ≡ types_of other g → results_of one f ≡ results_of other g
results_alike one other f g e =
    count_results (slice_get one.functions f) ∙ ap (λ o. unwrap_or (option_map (λ (t : Types). length t.1) o) 0) e ∙ sym (count_results (slice_get other.functions g))

-- ---- what a client's command reads

pub owner_is : (program : Program) (f x : ℕ) → IsOwn program f x → owner program x ≡ f
owner_is program f x own =
    let low = own.0 in let high = own.1 in
    holding_is (λ (d : FunctionDef). d.vars) program.functions f (x - statics program) (omega arith) (omega arith)

module _ (client library : Program) (iface : Iface) where
  abbrev moved : ℕ → ℕ
  moved = moved_var (client_shift library) client

  -- a result that goes to the library is read there, and all else where it is moved to
  pub read_cases : (x : ℕ) → ((IsResult client (owner client x) x → ⊥) × (client_read iface client library x ≡ moved_var (client_shift library) client x))
      ⊎ (IsResult client (owner client x) x × (client_read iface client library x ≡ result_by client library (owner client x) (goes iface client library (owner client x)) x))
  read_cases x = by (nat_lt x low) (nat_lt x high) refl refl
    where
      f : ℕ
      f = owner client x

      low : ℕ
      low = result client (owner client x) 0

      high : ℕ
      high = result client (owner client x) (results_of client (owner client x))

      by : (b c : Bool) → nat_lt x low ≡ b → nat_lt x high ≡ c
          → ((IsResult client (owner client x) x → ⊥) × ((if b then moved x else if c then result_by client library (owner client x) (goes iface client library (owner client x)) x else moved x) ≡ moved x))
          ⊎ (IsResult client (owner client x) x × ((if b then moved x else if c then result_by client library (owner client x) (goes iface client library (owner client x)) x else moved x)
          ≡ result_by client library (owner client x) (goes iface client library (owner client x)) x))
      by true c e h = inl (λ r. let lt = ltb-true _ _ e in let le = r.0 in omega arith, refl)
      by false true e h = inr ((ltb-false _ _ e, ltb-true _ _ h), refl)
      by false false e h = inl (λ r. let le = ltb-false _ _ h in let lt = r.1 in omega arith, refl)

  -- what is no function's is read where it is moved to, and so is what a function may write
  pub plain_read : (f x : ℕ) → IsWritable client f x → client_read iface client library x ≡ moved_var (client_shift library) client x
  plain_read f x h = elim (read_cases x) as (λ _. client_read iface client library x ≡ moved_var (client_shift library) client x) [
    | inl same ↦ same.1
    | inr gone ↦ absurd (elim h as (λ _. ⊥) [
      | inl low ↦ let le = gone.0.0 in omega arith
      | inr local ↦ local.1 (subst (λ k. IsResult client k x) (owner_is client f x local.0) gone.0)
    ])
  ]

  module _ (facts : IsProgram client) (well : IsWellFormed client) (other_facts : IsProgram library) (other_well : IsWellFormed library)
      (same_types : All (HasSameTypes client library) iface.functions) where
    abbrev whole : Program
    whole = joined client library iface

    abbrev ours : Shifted client (joined client library iface) (client_shift library) (client_numbers iface client library)
    ours = client_stands client library iface facts other_facts

    abbrev theirs : Shifted library (joined client library iface) (library_shift client) (library_numbers client library)
    theirs = library_stands client library iface facts other_facts

    pub gone : (f g : ℕ) → goes iface client library f ≡ Some g → (g < length library.functions) × (types_of client f ≡ types_of library g)
    gone f g e =
        let by = stands_for (HasSameTypes client library) iface.functions client library f g same_types e in
        (exported_exists library.exports by.0.name g (length library.functions) other_well.rule3.exist by.3, by.1 f g by.2 by.3)

    -- the library's result that stands for a client's
    stands_result : (f g x : ℕ) → goes iface client library f ≡ Some g → IsResult client f x → IsResult library g (result library g (x - result client f 0))
    stands_result f g x e h =
        let low = h.0 in let high = h.1 in
        let results = results_alike client library f g (gone f g e).1 in
        (omega arith, omega arith)

    readable_by : (f x : ℕ) (o : Option ℕ) → goes iface client library f ≡ o → IsResult client f x
        → (k : ℕ) → IsReadable whole (0 + k) (moved_var (client_shift library) client x) → IsReadable whole (0 + k) (result_by client library f o x)
    readable_by f x None e h k there = there
    readable_by f x (Some g) e h k there =
        let y : ℕ = result library g (x - result client f 0) in
        let is : moved_var (library_shift client) library y ≡ y + (library_shift client).vars = moved_own (library_shift client) library y (omega arith) in
        inr (inr (
          length client.functions + g,
          subst (IsResult whole (length client.functions + g)) (sym is)
              (is_result_moved library whole (library_shift client) (library_numbers client library) theirs g y (gone f g e).0 (stands_result f g x e h)),
        ))

    client_readable : (k x : ℕ) → k < length client.functions → IsReadable client k x → IsReadable whole (0 + k) (client_read iface client library x)
    client_readable k x lt h =
        let there = reads_moved client whole (client_shift library) (client_numbers iface client library) ours well k x lt h in
        elim (read_cases x) as (λ _. IsReadable whole (0 + k) (client_read iface client library x)) [
          | inl same ↦ subst (IsReadable whole (0 + k)) (sym same.1) there
          | inr one ↦ subst (IsReadable whole (0 + k)) (sym one.1) (readable_by (owner client x) x (goes iface client library (owner client x)) refl one.0 k there)
        ]

    -- the library's variables stand behind all of the client's
    apart_by : (f x k t : ℕ) (o : Option ℕ) → goes iface client library f ≡ o → IsResult client f x → IsLocal client k t
        → result_by client library f o x ≡ moved_var (client_shift library) client t → x ≡ t
    apart_by f x k t None e h local same = moved_apart client whole (client_shift library) (client_numbers iface client library) ours k x t local same
    apart_by f x k t (Some g) e h local same =
        let y : ℕ = result library g (x - result client f 0) in
        let is : moved_var (library_shift client) library y ≡ y + (library_shift client).vars = moved_own (library_shift client) library y (omega arith) in
        let low = local.0.0 in let high = local.0.1 in
        let at : moved_var (client_shift library) client t ≡ t + (client_shift library).vars = moved_own (client_shift library) client t (omega arith) in
        let lt = own_exists client k t local.0 in
        let below = first_below client (suc k) (omega arith) in
        absurd (omega arith)

    client_apart : (k x t : ℕ) → IsReadable client k x → IsLocal client k t → client_read iface client library x ≡ moved_var (client_shift library) client t → x ≡ t
    client_apart k x t h local same = elim (read_cases x) as (λ _. x ≡ t) [
      | inl plain ↦ moved_apart client whole (client_shift library) (client_numbers iface client library) ours k x t local (sym plain.1 ∙ same)
      | inr one ↦ apart_by (owner client x) x k t (goes iface client library (owner client x)) refl one.0 local (sym one.1 ∙ same)
    ]

    callee_by : (f : ℕ) (o : Option ℕ) → goes iface client library f ≡ o → f < length client.functions
        → (unwrap_or (option_map (λ g. length client.functions + g) o) f < length whole.functions)
        × (params_of whole (unwrap_or (option_map (λ g. length client.functions + g) o) f) ≡ params_of client f)
    callee_by f None e lt =
        let fit = ours.functions in
        let same : 0 + f ≡ f = omega arith in
        (omega arith, ap (params_of whole) (sym same) ∙ params_same client whole (client_shift library) (client_numbers iface client library) ours f lt)
    callee_by f (Some g) e lt =
        let fit = theirs.functions in
        let there = gone f g e in
        (omega (arith, there.0), params_same library whole (library_shift client) (library_numbers client library) theirs g there.0 ∙ sym (params_alike client library f g there.1))

    pub client_reads : Reads client (joined client library iface) (client_numbers iface client library) (λ f. 0 + f)
    client_reads = record {
      readable = client_readable;
      plain = plain_read;
      apart = client_apart;
      callee = λ f lt. callee_by f (goes iface client library f) refl lt;
    }

    pub library_reads : Reads library (joined client library iface) (library_numbers client library) (λ f. length client.functions + f)
    library_reads = record {
      readable = λ k x lt h. reads_moved library whole (library_shift client) (library_numbers client library) theirs other_well k x lt h;
      plain = λ k x h. refl;
      apart = λ k x t h local same. moved_apart library whole (library_shift client) (library_numbers client library) theirs k x t local same;
      callee = λ g lt. let fit = theirs.functions in (omega arith, params_same library whole (library_shift client) (library_numbers client library) theirs g lt);
    }
