-- Tables over names: what a table says where it was changed, and everywhere else.
use Rattle.std.proofs.Common.{◌≡◌, ℕ, suc, ◌<◌, Bool, true, false, List, [], ◌∷◌, length, set, slice_get, Some, refl, sym, ap, ◌∙◌, arith}
use Rattle.std.specs.Prelude.{IsTrue, nat_eq, if◌then◌else◌}
use Rattle.std.specs.List.{Contains, slice_index_or}
use Rattle.std.proofs.lemmas.Bool.{eqb-true}
use Rattle.std.proofs.lemmas.List.{get_or-set_same, get_or-set_other}
use Rattle.std.proofs.lemmas.Option.{get_or_from_slice_get, same_Some}
use Rattle.bl_base.proofs.Lists.{marked_within}
use Rattle.bl_graph.specs.Names.{place_of}
use Rattle.bl_graph.proofs.NameLemmas.{Rise, at_place, place_within}
use Rattle.bl_ct.specs.SecretSearch.{IsTable, mark_of}

-- at a variable's place within a list stands the variable
first_at : (z y : ℕ) (zs : List ℕ) (b : Bool) → nat_eq z y ≡ b → (place_of zs y < length zs → slice_get zs (place_of zs y) ≡ Some y)
    → (if b then 0 else suc (place_of zs y)) < length (z ∷ zs) → slice_get (z ∷ zs) (if b then 0 else suc (place_of zs y)) ≡ Some y
first_at z y zs true e later lt = ap Some (eqb-true z y e)
first_at z y zs false e later lt = later (omega arith)

stands_at : (names : List ℕ) (y : ℕ) → place_of names y < length names → slice_get names (place_of names y) ≡ Some y
stands_at [] y lt = absurd (omega arith)
stands_at (z ∷ zs) y lt = first_at z y zs (nat_eq z y) refl (stands_at zs y) lt

-- a variable whose place is within is one of the names
pub within_has : (names : List ℕ) (y : ℕ) → place_of names y < length names → Contains names y
within_has names y lt = (place_of names y, lt, get_or_from_slice_get names (place_of names y) y y (stands_at names y lt))

-- a variable that is marked is one of the names
pub marked_has : (names : List ℕ) (marks : List Bool) (x : ℕ) → length marks ≡ length names → IsTrue (mark_of names marks x) → Contains names x
marked_has names marks x places h = let low = marked_within marks (place_of names x) h in within_has names x (omega arith)

-- no other variable has the place of a name
pub place_own : (names : List ℕ) (x y : ℕ) → Rise names → Contains names x → place_of names y ≡ place_of names x → y ≡ x
place_own names x y rise has e =
    let within = place_within names x rise has in
    same_Some y x (sym (stands_at names y (omega arith)) ∙ (ap (slice_get names) e ∙ at_place names x rise has))

module _ {A : Type 0} (names : List ℕ) (table : List A) (is : IsTable names table) (x : ℕ) (has : Contains names x) where
  pub table_within : place_of names x < length table
  table_within = let within = place_within names x is.rise has in let places = is.places in omega arith

  pub at_name : (v d : A) → slice_index_or (set table (place_of names x) v) (place_of names x) d ≡ v
  at_name v d = get_or-set_same table (place_of names x) v d table_within

  pub at_others : (v d : A) (y : ℕ) → (y ≡ x → ⊥) → slice_index_or (set table (place_of names x) v) (place_of names y) d ≡ slice_index_or table (place_of names y) d
  at_others v d y other = get_or-set_other table (place_of names x) (place_of names y) v d (λ e. other (place_own names x y is.rise has e))
