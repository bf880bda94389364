-- Users that keep to an interface: what they import of the stub goes to the library's function of the same name.
use Rattle.std.proofs.Common.{◌≡◌, ◌∙◌, refl, sym, ap, subst, ℕ, ◌||◌, List, [], ◌∷◌, true, false, Bool, Option, Some, None, slice_get, inl, inr}
use Rattle.std.specs.Prelude.{if◌then◌else◌, nat_eq, option_map, unwrap_or}
use Rattle.std.specs.List.{All}
use Rattle.std.specs.Str.{bytes_eq}
use Rattle.std.proofs.lemmas.Bool.{eq-eqb, eqb-true, false≢true}
use Rattle.std.proofs.lemmas.List.Elements.{All-head, All-tail}
use Rattle.std.proofs.lemmas.List.Folds.{list_any_at}
use Rattle.std.proofs.lemmas.Option.{get_or_from_slice_get, slice_get_within}
use Rattle.std.proofs.lemmas.Slice.Eq.{bytes_eq-Decides}
use Rattle.bl_base.proofs.Lists.{all_from, all_get}
use Rattle.bl_wasm.specs.Exports.{value_named}
use Rattle.bl_wasm.specs.declared.linked.Tree.{Tree}
use Rattle.bl_wasm.proofs.NamedLemmas.{stands_at, value_found}
use Rattle.bl_link.specs.declared.part.Part.{Part}
use Rattle.bl_iface.specs.JoinedProgram.{is_named}
use Rattle.bl_iface.specs.declared.iface.FnIface.{FnIface}
use Rattle.bl_iface.specs.declared.iface.Iface.{Iface}
use Rattle.bl_whole.specs.JoinedTree.{goes_among}
use Rattle.bl_apart.specs.LinkedApart.{AreLinked, IsRedirected}
use Rattle.bl_apart.proofs.UserExports.{not_both, stub_linked, whose}
use Rattle.bl_app.specs.JoinedModules.{IsNamed}

-- ---- names

-- what holds of all names of an interface holds of each
named_by : (P : List ℕ → Type 0) (functions : List FnIface) (name : List ℕ) → is_named functions name ≡ true → All (λ (one : FnIface). P one.name) functions → P name
named_by P [] name h all = absurd (false≢true h)
named_by P (one ∷ others) name h all =
    by (bytes_eq name one.name) refl h (λ k. named_by P others name k (All-tail (λ (one : FnIface). P one.name) one others all))
  where
    by : (test : Bool) → bytes_eq name one.name ≡ test → (test || is_named others name) ≡ true → (is_named others name ≡ true → P name) → P name
    by true e h later = subst P (sym ((bytes_eq-Decides name one.name).0 e)) (All-head (λ (one : FnIface). P one.name) one others all)
    by false e h later = later h

each_named : (functions : List FnIface) (i : ℕ) (one : FnIface) → slice_get functions i ≡ Some one → is_named functions one.name ≡ true
each_named functions i one e =
    list_any_at (λ (x : FnIface). bytes_eq one.name x.name) functions i one (slice_get_within functions i one e)
    (ap (λ (x : FnIface). bytes_eq one.name x.name) (get_or_from_slice_get functions i one one e) ∙ (bytes_eq-Decides one.name one.name).1 refl)

-- ---- where functions go

test_is : (function : ℕ) (found : Option ℕ) → unwrap_or (option_map (nat_eq function) found) false ≡ true → found ≡ Some function
test_is function None h = absurd (false≢true h)
test_is function (Some other) h = ap (λ (f : ℕ). Some f) (sym (eqb-true function other h))

module _ (client library : Tree) (function callee : ℕ) where
  -- where the client exports the function under that name, the library exports the callee under it
  abbrev Leads : FnIface → Type 0
  Leads one = value_named one.name client.exports ≡ Some function → value_named one.name library.exports ≡ Some callee

  goes_on : (functions : List FnIface) (name : List ℕ) → is_named functions name ≡ true → value_named name client.exports ≡ Some function → All Leads functions
      → goes_among functions client library function ≡ Some callee
  goes_on [] name h e all = absurd (false≢true h)
  goes_on (one ∷ others) name h e all =
      by (unwrap_or (option_map (nat_eq function) (value_named one.name client.exports)) false) refl (λ k. goes_on others name k e (All-tail Leads one others all))
    where
      other_name : unwrap_or (option_map (nat_eq function) (value_named one.name client.exports)) false ≡ false → (test : Bool) → bytes_eq name one.name ≡ test → (test || is_named others name) ≡ true
          → is_named others name ≡ true
      other_name missed true same h =
          absurd (false≢true (sym missed ∙ ap (λ o. unwrap_or (option_map (nat_eq function) o) false)
          (ap (λ n. value_named n client.exports) (sym ((bytes_eq-Decides name one.name).0 same)) ∙ e) ∙ eq-eqb function function refl))
      other_name missed false same h = h

      by : (test : Bool) → unwrap_or (option_map (nat_eq function) (value_named one.name client.exports)) false ≡ test
          → (is_named others name ≡ true → goes_among others client library function ≡ Some callee)
          → (if test then value_named one.name library.exports else goes_among others client library function) ≡ Some callee
      by true passed later = All-head Leads one others all (test_is function (value_named one.name client.exports) passed)
      by false missed later = later (other_name missed (bytes_eq name one.name) refl h)

-- ---- the users

-- the client exports a function under that name, and so does the library
pub record AreBoth (client library : Tree) (name : List ℕ) : Type 0 where
  pub function : ℕ
  pub callee : ℕ
  pub here : value_named name client.exports ≡ Some function
  pub there : value_named name library.exports ≡ Some callee

-- two names of one function of the stub are names of one function of the library
abbrev pub StandFor : Iface → Tree → Tree → Type 0
StandFor iface stub library =
    (one other : List ℕ) (function : ℕ) → IsNamed iface one → IsNamed iface other → value_named one stub.exports ≡ Some function → value_named other stub.exports ≡ Some function
    → value_named one library.exports ≡ value_named other library.exports

module _ (iface : Iface) (stubs libraries users : List Part) (stub library client whole : Tree) (are : AreLinked stubs libraries users stub library client whole)
    (both : All (λ (one : FnIface). AreBoth client library one.name) iface.functions) (names : StandFor iface stub library) where
  -- what the client and the library export under one name, the client has of the stub
  in_stub : (name : List ℕ) (function callee : ℕ) → value_named name client.exports ≡ Some function → value_named name library.exports ≡ Some callee → value_named name stub.exports ≡ Some function
  in_stub name function callee e f =
      elim (whose stubs libraries users stub library client whole are name function (stands_at client.exports name function e)) as (λ _. value_named name stub.exports ≡ Some function) [
        | inl ours ↦ value_found stub.exports ours.0 (name, function) (stub_linked stubs libraries users stub library client whole are).distinct ours.1
        | inr of ↦ absurd (not_both stubs libraries users stub library client whole are name callee of (stands_at library.exports name callee f))
      ]

  pub redirected : (name : List ℕ) → IsNamed iface name → IsRedirected iface stub client library name
  redirected name h =
      let known = named_by (AreBoth client library) iface.functions name h both in
      let stands = in_stub name known.function known.callee known.here known.there in
      record {
        function = known.function;
        callee = known.callee;
        stands = stands;
        exported = known.there;
        goes = goes_on client library known.function known.callee iface.functions name h known.here
            (all_from (Leads client library known.function known.callee) iface.functions (λ i one e here.
            let other = all_get (λ (one : FnIface). AreBoth client library one.name) iface.functions i one both e in
            names one.name name known.function (each_named iface.functions i one e) h (in_stub one.name known.function other.callee here other.there) stands ∙ known.there));
      }
