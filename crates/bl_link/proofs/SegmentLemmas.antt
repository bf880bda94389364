-- Segments that are written keep tables and memories as they have to be.
use Rattle.std.proofs.Common.{◌≡◌, ◌∙◌, refl, sym, ap, ℕ, zero, suc, ◌+◌, ◌^◌, ◌<◌, ◌≤◌, ◌&&◌, List, [], ◌∷◌, ◌++◌, length, get_or, set, map, take, drop, true, Bool, Option, Some, slice_get, option_map, arith, length-append, length-take, length-drop}
use Rattle.std.specs.Prelude.{IfSome, fold, nat_le, unwrap_or}
use Rattle.std.specs.List.{All, list_all}
use Rattle.std.proofs.lemmas.List.Elements.{All-head, All-tail, All-cons, All-append, All-take, All-drop, All-map}
use Rattle.bl_base.specs.Fits.{AreBytes}
use Rattle.bl_wasm.specs.Linked.{IsMemory}
use Rattle.bl_wasm.specs.declared.module.DataSegment.{DataSegment}
use Rattle.bl_wasm.specs.declared.module.ElementSegment.{ElementSegment}
use Rattle.bl_wasm.specs.declared.linked.Global.{Global}
use Rattle.bl_wasm.specs.declared.linked.Memory.{Memory}
use Rattle.bl_link.specs.Links.{data_fits, constant_value, put_data, put_element, size}
use Rattle.bl_link.specs.IndexSpaces.{Spaces, changed, number, written}
use Rattle.bl_link.specs.Stores.{IsTable}
use Rattle.bl_link.proofs.ImportMatchLemmas.{and_left, and_right}

-- ---- lists with one element changed

pub length_changed : {A : Type 0} (n : ℕ) (f : A → A) (xs : List A) → length (changed n f xs) ≡ length xs
length_changed n f [] = refl
length_changed zero f (x ∷ xs) = refl
length_changed (suc n) f (x ∷ xs) = ap suc (length_changed n f xs)

pub all_changed : {A : Type 0} (P : A → Type 0) (n : ℕ) (f : A → A) (xs : List A) → ((x : A) → slice_get xs n ≡ Some x → P x → P (f x)) → All P xs → All P (changed n f xs)
all_changed P n f [] each all = all
all_changed P zero f (x ∷ xs) each all = All-cons P (f x) xs (each x refl (All-head P x xs all)) (All-tail P x xs all)
all_changed P (suc n) f (x ∷ xs) each all = All-cons P x (changed n f xs) (All-head P x xs all) (all_changed P n f xs each (All-tail P x xs all))

pub same_changed : {A : Type 0} (g : A → ℕ) (n : ℕ) (f : A → A) (xs : List A) → ((x : A) → slice_get xs n ≡ Some x → g (f x) ≡ g x) → (m : ℕ)
    → option_map g (slice_get (changed n f xs) m) ≡ option_map g (slice_get xs m)
same_changed g n f [] each m = refl
same_changed g zero f (x ∷ xs) each zero = ap (λ n. Some n) (each x refl)
same_changed g zero f (x ∷ xs) each (suc m) = refl
same_changed g (suc n) f (x ∷ xs) each zero = refl
same_changed g (suc n) f (x ∷ xs) each (suc m) = same_changed g n f xs each m

pub length_written : {A : Type 0} (place : ℕ) (new old : List A) → place + length new ≤ length old → length (written place new old) ≡ length old
length_written place new old fits = omega (arith, fits, length-append (take place old ++ new) (drop (place + length new) old), length-append (take place old) new, length-take place old, length-drop (place + length new) old)

pub all_written : {A : Type 0} (P : A → Type 0) (place : ℕ) (new old : List A) → All P new → All P old → All P (written place new old)
all_written P place new old n o = All-append P (take place old ++ new) (drop (place + length new) old) (All-append P (take place old) new (All-take P place old o) n) (All-drop P (place + length new) old o)

pub same_tests : {A : Type 0} (p q : A → Bool) → ((x : A) → p x ≡ q x) → (xs : List A) → list_all p xs ≡ list_all q xs
same_tests p q each [] = refl
same_tests p q each (x ∷ xs) = ap (λ b. b && list_all p xs) (each x) ∙ ap (λ b. q x && b) (same_tests p q each xs)

-- ---- element segments

-- the functions that a segment names exist
abbrev pub NamesFunctions : ℕ → Spaces → ElementSegment → Type 0
NamesFunctions count spaces segment = All (λ function. number spaces.functions function < count) segment.functions

pub elements_kept : (count : ℕ) (globals : List Global) (spaces : Spaces) (segments : List ElementSegment) (tables : List (List (Option ℕ))) → All (NamesFunctions count spaces) segments → All (IsTable count) tables
    → All (IsTable count) (fold (put_element globals spaces) tables segments) × (length (fold (put_element globals spaces) tables segments) ≡ length tables)
elements_kept count globals spaces [] tables names all = (all, refl)
elements_kept count globals spaces (segment ∷ segments) tables names all =
    let new : List (Option ℕ) = map (λ function. Some (number spaces.functions function)) segment.functions in
    let place : ℕ = constant_value globals spaces segment.offset in
    let put : IsTable count new = All-map (λ slot. IfSome slot (λ function. function < count)) (λ function. Some (number spaces.functions function)) segment.functions (All-head (NamesFunctions count spaces) segment segments names) in
    let step : All (IsTable count) (put_element globals spaces tables segment) = all_changed (IsTable count) (number spaces.tables segment.table) (written place new) tables (λ old found is. all_written (λ slot. IfSome slot (λ function. function < count)) place new old put is) all in
    let rest = elements_kept count globals spaces segments (put_element globals spaces tables segment) (All-tail (NamesFunctions count spaces) segment segments names) step in
    (rest.0, rest.1 ∙ length_changed (number spaces.tables segment.table) (written place new) tables)

-- ---- data segments

pub le_of : (a b : ℕ) → nat_le a b ≡ true → a ≤ b
le_of a b h = grind arith

put_bytes : (globals : List Global) (spaces : Spaces) (segment : DataSegment) (memories : List Memory) (memory : Memory) → data_fits globals spaces memories segment ≡ true
    → slice_get memories (number spaces.memories segment.memory) ≡ Some memory → length (written (constant_value globals spaces segment.offset) segment.bytes memory.bytes) ≡ length memory.bytes
put_bytes globals spaces segment memories memory fits found =
    let here : size memories (number spaces.memories segment.memory) ≡ length memory.bytes = ap (λ o. unwrap_or (option_map (λ memory. length memory.bytes) o) 0) found in
    length_written (constant_value globals spaces segment.offset) segment.bytes memory.bytes
    (omega (arith, here, le_of (constant_value globals spaces segment.offset + length segment.bytes) (size memories (number spaces.memories segment.memory)) fits))

-- what fits before a segment that fits is written fits behind it
pub fits_later : (globals : List Global) (spaces : Spaces) (segment : DataSegment) (segments : List DataSegment) (memories : List Memory) → data_fits globals spaces memories segment ≡ true
    → list_all (data_fits globals spaces memories) segments ≡ true → list_all (data_fits globals spaces (put_data globals spaces memories segment)) segments ≡ true
fits_later globals spaces segment segments memories first later =
    let n : ℕ = number spaces.memories segment.memory in
    let put : Memory → Memory = λ memory. record memory { bytes = written (constant_value globals spaces segment.offset) segment.bytes memory.bytes } in
    let same : (m : ℕ) → size (changed n put memories) m ≡ size memories m = λ m. ap (λ o. unwrap_or o 0) (same_changed (λ (memory : Memory). length memory.bytes) n put memories (λ memory found. put_bytes globals spaces segment memories memory first found) m) in
    same_tests (data_fits globals spaces (changed n put memories)) (data_fits globals spaces memories) (λ other. ap (nat_le (constant_value globals spaces other.offset + length other.bytes)) (same (number spaces.memories other.memory))) segments ∙ later

pub data_kept : (globals : List Global) (spaces : Spaces) (segments : List DataSegment) (memories : List Memory) → All (λ segment. AreBytes segment.bytes) segments
    → list_all (data_fits globals spaces memories) segments ≡ true → All IsMemory memories
    → All IsMemory (fold (put_data globals spaces) memories segments) × (length (fold (put_data globals spaces) memories segments) ≡ length memories)
data_kept globals spaces [] memories bytes fits all = (all, refl)
data_kept globals spaces (segment ∷ segments) memories bytes fits all =
    let n : ℕ = number spaces.memories segment.memory in
    let put : Memory → Memory = λ memory. record memory { bytes = written (constant_value globals spaces segment.offset) segment.bytes memory.bytes } in
    let first = and_left (data_fits globals spaces memories segment) (list_all (data_fits globals spaces memories) segments) fits in
    let later = and_right (data_fits globals spaces memories segment) (list_all (data_fits globals spaces memories) segments) fits in
    let fit : list_all (data_fits globals spaces (changed n put memories)) segments ≡ true = fits_later globals spaces segment segments memories first later in
    let step : All IsMemory (changed n put memories) = all_changed IsMemory n put memories (λ memory found is. record {
      first = is.first;
      most = is.most;
      size = put_bytes globals spaces segment memories memory first found ∙ is.size;
      bytes = all_written (λ byte. byte < 2 ^ 8) (constant_value globals spaces segment.offset) segment.bytes memory.bytes (All-head (λ (segment : DataSegment). AreBytes segment.bytes) segment segments bytes) is.bytes;
    }) all in
    let rest = data_kept globals spaces segments (changed n put memories) (All-tail (λ (segment : DataSegment). AreBytes segment.bytes) segment segments bytes) fit step in
    (rest.0, rest.1 ∙ length_changed n put memories)

-- ---- in place

pub changed_set : {A : Type 0} (n : ℕ) (f : A → A) (xs : List A) (d : A) → n < length xs → changed n f xs ≡ set xs n (f (get_or xs n d))
changed_set n f [] d below = absurd (omega (arith, below))
changed_set zero f (x ∷ xs) d below = refl
changed_set (suc n) f (x ∷ xs) d below = ap (λ l. x ∷ l) (changed_set n f xs d (omega (arith, below)))

pub changed_past : {A : Type 0} (n : ℕ) (f : A → A) (xs : List A) → length xs ≤ n → changed n f xs ≡ xs
changed_past n f [] past = refl
changed_past zero f (x ∷ xs) past = absurd (omega (arith, past))
changed_past (suc n) f (x ∷ xs) past = ap (λ l. x ∷ l) (changed_past n f xs (omega (arith, past)))

pub put_at : (memories : List Memory) (n place : ℕ) (bytes : List ℕ) (at p : ℕ) (b : List ℕ) (old new d : Memory) → at ≡ n → p ≡ place → b ≡ bytes → old ≡ get_or memories at d → new ≡ record old { bytes = written p b old.bytes } → at < length memories
    → set memories at new ≡ changed n (λ memory. record memory { bytes = written place bytes memory.bytes }) memories
put_at memories n place bytes at p b old new d e f g h made below =
    ap (set memories at) (made ∙ ap (λ (m : Memory). record m { bytes = written p b m.bytes }) h)
    ∙ sym (changed_set at (λ memory. record memory { bytes = written p b memory.bytes }) memories d below)
    ∙ ap (λ k. changed k (λ (memory : Memory). record memory { bytes = written p b memory.bytes }) memories) e
    ∙ ap (λ q. changed n (λ (memory : Memory). record memory { bytes = written q b memory.bytes }) memories) f
    ∙ ap (λ (c : List ℕ). changed n (λ (memory : Memory). record memory { bytes = written place c memory.bytes }) memories) g
