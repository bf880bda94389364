-- Element segments that are written one after another.
use Rattle.std.proofs.Common.{◌≡◌, ◌∙◌, refl, sym, ap, subst, ℕ, zero, suc, ◌+◌, ◌<◌, ◌≤◌, ◌&&◌, List, [], ◌∷◌, ◌++◌, length, get_or, set, map, take, drop, true, Option, Some, slice_get, option_map, arith, length-append, length-take, append_assoc, append-nil, add-zero}
use Rattle.std.specs.Prelude.{fold, nat_le, unwrap_or}
use Rattle.std.specs.List.{list_all}
use Rattle.std.proofs.lemmas.List.{length-map, drop_more, take_more, map-append, take-append-drop}
use Rattle.bl_wasm.specs.declared.module.ElementSegment.{ElementSegment}
use Rattle.bl_wasm.specs.declared.linked.Global.{Global}
use Rattle.bl_link.specs.Links.{element_fits, constant_value, put_element, slots}
use Rattle.bl_link.specs.IndexSpaces.{Spaces, changed, number, written}
use Rattle.bl_link.proofs.ImportMatchLemmas.{and_left, and_right}
use Rattle.bl_link.proofs.SegmentLemmas.{changed_set, le_of, length_written, same_changed, same_tests}

-- ---- in place

-- an element right behind others
set_behind : {A : Type 0} (front rest : List A) (y x : A) → set (front ++ y ∷ rest) (length front) x ≡ front ++ x ∷ rest
set_behind [] rest y x = refl
set_behind (a ∷ front) rest y x = ap (λ l. a ∷ l) (set_behind front rest y x)

-- writing one more, behind those that are written
pub set_written : {A : Type 0} (place : ℕ) (new old : List A) (x : A) → place + length new < length old → set (written place new old) (place + length new) x ≡ written place (new ++ x ∷ []) old
set_written place new old x below =
    let many : length (take place old ++ new) ≡ place + length new = omega (arith, length-append (take place old) new, length-take place old, below) in
    let next : place + length new + 1 ≡ place + length (new ++ x ∷ []) = omega (arith, length-append new (x ∷ [])) in
    ap (λ l. set (take place old ++ new ++ l) (place + length new) x) (drop_more old (place + length new) x below)
    ∙ ap (λ n. set (take place old ++ new ++ get_or old (place + length new) x ∷ drop (place + length new + 1) old) n x) (sym many)
    ∙ set_behind (take place old ++ new) (drop (place + length new + 1) old) (get_or old (place + length new) x) x
    ∙ sym (append_assoc (take place old ++ new) (x ∷ []) (drop (place + length new + 1) old))
    ∙ ap (λ l. l ++ drop (place + length new + 1) old) (append_assoc (take place old) new (x ∷ []))
    ∙ ap (λ n. take place old ++ (new ++ x ∷ []) ++ drop n old) next

-- nothing is written
pub none_written : {A : Type 0} (place : ℕ) (old : List A) → old ≡ written place [] old
none_written place old =
    sym (take-append-drop place old)
    ∙ ap (λ l. l ++ drop place old) (sym (append-nil (take place old)))
    ∙ ap (λ n. take place old ++ [] ++ drop n old) (sym (add-zero place))

-- one slot more
pub slots_more : (spaces : Spaces) (functions : List ℕ) (place i value : ℕ) (cells old : List (Option ℕ)) → i < length functions → place + length functions ≤ length old
    → cells ≡ written place (map (λ function. Some (number spaces.functions function)) (take i functions)) old → value ≡ number spaces.functions (get_or functions i 0)
    → set cells (place + i) (Some value) ≡ written place (map (λ function. Some (number spaces.functions function)) (take (i + 1) functions)) old
slots_more spaces functions place i value cells old below fits so_far numbered =
    let f : ℕ → Option ℕ = λ function. Some (number spaces.functions function) in
    let many : length (map f (take i functions)) ≡ i = length-map (take i functions) f ∙ count i functions below in
    ap (λ c. set c (place + i) (Some value)) so_far
    ∙ ap (λ k. set (written place (map f (take i functions)) old) (place + k) (Some value)) (sym many)
    ∙ set_written place (map f (take i functions)) old (Some value) (omega (arith, many, below, fits))
    ∙ ap (λ n. written place (map f (take i functions) ++ Some n ∷ []) old) numbered
    ∙ ap (λ l. written place l old) (sym (ap (map f) (take_more functions i 0 below) ∙ map-append f (take i functions) (get_or functions i 0 ∷ [])))
  where
    count : (i : ℕ) (xs : List ℕ) → i < length xs → length (take i xs) ≡ i
    count zero [] below = absurd (omega (arith, below))
    count zero (x ∷ xs) below = refl
    count (suc i) [] below = absurd (omega (arith, below))
    count (suc i) (x ∷ xs) below = ap suc (count i xs (omega (arith, below)))

-- ---- in the tables

put_slots : (globals : List Global) (spaces : Spaces) (segment : ElementSegment) (tables : List (List (Option ℕ))) (table : List (Option ℕ)) → element_fits globals spaces tables segment ≡ true
    → slice_get tables (number spaces.tables segment.table) ≡ Some table
    → length (written (constant_value globals spaces segment.offset) (map (λ function. Some (number spaces.functions function)) segment.functions) table) ≡ length table
put_slots globals spaces segment tables table fits found =
    let new : List (Option ℕ) = map (λ function. Some (number spaces.functions function)) segment.functions in
    let here : slots tables (number spaces.tables segment.table) ≡ length table = ap (λ o. unwrap_or (option_map (λ (t : List (Option ℕ)). length t) o) 0) found in
    length_written (constant_value globals spaces segment.offset) new table
    (omega (arith, here, length-map segment.functions (λ function. Some (number spaces.functions function)), le_of (constant_value globals spaces segment.offset + length segment.functions) (slots tables (number spaces.tables segment.table)) fits))

-- what fits before a segment that fits is written fits behind it
pub slots_fit_later : (globals : List Global) (spaces : Spaces) (segment : ElementSegment) (segments : List ElementSegment) (tables : List (List (Option ℕ))) → element_fits globals spaces tables segment ≡ true
    → list_all (element_fits globals spaces tables) segments ≡ true → list_all (element_fits globals spaces (put_element globals spaces tables segment)) segments ≡ true
slots_fit_later globals spaces segment segments tables first later =
    let n : ℕ = number spaces.tables segment.table in
    let put : List (Option ℕ) → List (Option ℕ) = written (constant_value globals spaces segment.offset) (map (λ function. Some (number spaces.functions function)) segment.functions) in
    let same : (m : ℕ) → slots (changed n put tables) m ≡ slots tables m = λ m. ap (λ o. unwrap_or o 0) (same_changed (λ (table : List (Option ℕ)). length table) n put tables (λ table found. put_slots globals spaces segment tables table first found) m) in
    same_tests (element_fits globals spaces (changed n put tables)) (element_fits globals spaces tables) (λ other. ap (nat_le (constant_value globals spaces other.offset + length other.functions)) (same (number spaces.tables other.table))) segments ∙ later

pub slots_at : (tables : List (List (Option ℕ))) (n place : ℕ) (new : List (Option ℕ)) (at p : ℕ) (w old made d : List (Option ℕ)) → at ≡ n → p ≡ place → w ≡ new → old ≡ get_or tables at d → made ≡ written p w old → at < length tables
    → set tables at made ≡ changed n (written place new) tables
slots_at tables n place new at p w old made d e f g h is below =
    ap (set tables at) (is ∙ ap (written p w) h)
    ∙ sym (changed_set at (written p w) tables d below)
    ∙ ap (λ k. changed k (written p w) tables) e
    ∙ ap (λ q. changed n (written q w) tables) f
    ∙ ap (λ v. changed n (written place v) tables) g

-- one segment more is written
pub slots_fit_more : (globals : List Global) (spaces : Spaces) (tables next : List (List (Option ℕ))) (left rest : List ElementSegment) (segment : ElementSegment) → left ≡ segment ∷ rest → next ≡ put_element globals spaces tables segment
    → list_all (element_fits globals spaces tables) left ≡ true → list_all (element_fits globals spaces next) rest ≡ true
slots_fit_more globals spaces tables next left rest segment split made fits =
    let all : (element_fits globals spaces tables segment && list_all (element_fits globals spaces tables) rest) ≡ true = subst (λ (l : List ElementSegment). list_all (element_fits globals spaces tables) l ≡ true) split fits in
    subst (λ (m : List (List (Option ℕ))). list_all (element_fits globals spaces m) rest ≡ true) (sym made)
    (slots_fit_later globals spaces segment rest tables (and_left (element_fits globals spaces tables segment) (list_all (element_fits globals spaces tables) rest) all) (and_right (element_fits globals spaces tables segment) (list_all (element_fits globals spaces tables) rest) all))

pub slots_whole_more : (globals : List Global) (spaces : Spaces) (tables next whole : List (List (Option ℕ))) (left rest : List ElementSegment) (segment : ElementSegment) → left ≡ segment ∷ rest → next ≡ put_element globals spaces tables segment
    → fold (put_element globals spaces) tables left ≡ whole → fold (put_element globals spaces) next rest ≡ whole
slots_whole_more globals spaces tables next whole left rest segment split made so_far =
    ap (λ (m : List (List (Option ℕ))). fold (put_element globals spaces) m rest) made ∙ ap (λ (l : List ElementSegment). fold (put_element globals spaces) tables l) (sym split) ∙ so_far
