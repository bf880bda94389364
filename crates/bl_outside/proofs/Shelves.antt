-- The files of an ordered map: what it has at a name, and an entry made new.
use Rattle.std.proofs.Common.{◌≡◌, ℕ, Bool, true, false, cond, List, [], ◌∷◌, Some, Option, map, refl, ap, sym, ◌∙◌}
use Rattle.std.specs.Prelude.{Vec, String, string_bytes}
use Rattle.std.specs.Option.{option_map}
use Rattle.std.specs.Ordering.{nat_cmp, is_eq}
use Rattle.std.specs.Cmp.{eq_by_cmp_equiv}
use Rattle.std.specs.Cmp.Lexicographic.{slice_cmp, nat_list_cmp_total}
use Rattle.std.specs.FinMap.{from_entries, get, insert, find, get-from_entries, get-insert, same_map, slice_cmp-IsAntisymmetric, nat_cmp-IsAntisymmetric}
use Rattle.std.specs.BTreeMap.{BTreeMap, UpdatesBy, get_by_text}
use Rattle.std.specs.Map.{lookup}
use Rattle.std.specs.String.{string_cmp}
use Rattle.std.specs.Str.{bytes_eq}
use Rattle.std.specs.declared.alloc.Global.{Global}
use Rattle.std.proofs.lemmas.Map.Text.{is_eq-slice_cmp, btree_map_updates_text}
use Rattle.bl_outside.specs.MemoryShelf.{named}

-- a scan of the named entries finds what a look-up by bytes does
find-named : (es : List (String Global × Vec ℕ Global)) (q : List ℕ) → find (slice_cmp nat_cmp) q (map named es) ≡ option_map (λ v. v.items) (lookup (λ k. is_eq (slice_cmp nat_cmp q (string_bytes k))) es)
find-named [] q = refl
find-named (e ∷ es) q =
    elim (is_eq (slice_cmp nat_cmp q (string_bytes e.0))) as (λ b. cond b (Some e.1.items) (find (slice_cmp nat_cmp) q (map named es)) ≡ option_map (λ v. v.items) (cond b (Some e.1) (lookup (λ k. is_eq (slice_cmp nat_cmp q (string_bytes k))) es))) [
      | true ↦ refl
      | false ↦ find-named es q
    ]

-- what the files have at a name is what the map has there
pub get-files : (m : BTreeMap (String Global) (Vec ℕ Global)) (q : List ℕ) → get (from_entries {R = slice_cmp nat_cmp} (map named m.entries)) q ≡ option_map (λ v. v.items) (get_by_text m q)
get-files m q = get-from_entries nat_list_cmp_total (map named m.entries) q ∙ find-named m.entries q

-- the bytes of the value that is chosen
cond-items : (b : Bool) (v : Vec ℕ Global) (w : Option (Vec ℕ Global)) → option_map (λ v. v.items) (cond b (Some v) w) ≡ cond b (Some v.items) (option_map (λ v. v.items) w)
cond-items b v w = elim b as (λ b. option_map (λ v. v.items) (cond b (Some v) w) ≡ cond b (Some v.items) (option_map (λ v. v.items) w)) [ true ↦ refl | false ↦ refl ]

-- the files after the map is given a value at a name
pub files-updates : (m n : BTreeMap (String Global) (Vec ℕ Global)) (name : List ℕ) (v : Vec ℕ Global) → UpdatesBy string_cmp (λ k. slice_cmp nat_cmp name (string_bytes k)) m n (Some v)
    → from_entries {R = slice_cmp nat_cmp} (map named n.entries) ≡ insert (from_entries (map named m.entries)) name v.items
files-updates m n name v h =
    same_map nat_list_cmp_total (slice_cmp-IsAntisymmetric nat_cmp-IsAntisymmetric) _ _ (λ q.
    get-files n q
    ∙ ap (option_map (λ v. v.items)) (btree_map_updates_text name m n (Some v) h q)
    ∙ cond-items (bytes_eq name q) v (get_by_text m q)
    ∙ sym (get-insert nat_list_cmp_total (from_entries (map named m.entries)) name v.items q
    ∙ ap (λ b. cond b (Some v.items) (get (from_entries {R = slice_cmp nat_cmp} (map named m.entries)) q)) ((eq_by_cmp_equiv nat_list_cmp_total).symm q name ∙ is_eq-slice_cmp name q)
    ∙ ap (cond (bytes_eq name q) (Some v.items)) (get-files m q)))

-- what the files of a map have at a name
pub ruleset files = (get-files)
