-- Segments that are written behind two others.
use Rattle.std.proofs.Common.{◌≡◌, ◌∙◌, refl, sym, ap, ap₂, subst, ℕ, zero, suc, ◌+◌, ◌<◌, ◌≤◌, List, [], ◌∷◌, ◌++◌, length, map, take, drop, Option, Some, slice_get, false, arith}
use Rattle.std.specs.Prelude.{option_map, unwrap_or, fold}
use Rattle.std.specs.List.{All}
use Rattle.std.proofs.lemmas.List.{length-map, map-append, take-map, drop-map}
use Rattle.std.proofs.lemmas.List.Elements.{All-head, All-tail}
use Rattle.std.proofs.lemmas.Option.{slice_get_within}
use Rattle.bl_wasm.specs.Validity.{IsElement, IsData, IsInitial, IsOffset, functions_of, globals_of, tables_of, memories_of}
use Rattle.bl_wasm.specs.declared.instruction.Instr.{Instr}
use Rattle.bl_wasm.specs.declared.instruction.Instr.TheVariants.{I32Const, I64Const, GlobalGet}
use Rattle.bl_wasm.specs.declared.types.GlobalType.{GlobalType}
use Rattle.bl_wasm.specs.declared.types.WasmType.{WasmType}
use Rattle.bl_wasm.specs.declared.types.WasmType.TheVariants.{I32, I64, F32, F64}
use Rattle.bl_wasm.specs.declared.module.DataSegment.{DataSegment}
use Rattle.bl_wasm.specs.declared.module.ElementSegment.{ElementSegment}
use Rattle.bl_wasm.specs.declared.module.ExportKind.TheVariants as export
use Rattle.bl_wasm.specs.declared.module.Module.{Module}
use Rattle.bl_wasm.specs.declared.linked.Global.{Global}
use Rattle.bl_wasm.specs.declared.linked.Memory.{Memory}
use Rattle.bl_apart.specs.Beside.{Beside}
use Rattle.bl_rename.specs.Renamings.{slots_by}
use Rattle.bl_apart.specs.BesideStores.{NumberAlike, Same, Setting, SpacesAlike}
use Rattle.bl_link.specs.IndexSpaces.{changed, number, written}
use Rattle.bl_apart.specs.LinkedTypes.{Spaces}
use Rattle.bl_link.specs.Links.{constant_value, put_data, put_element}
use Rattle.bl_apart.proofs.BesideParts.{zip_numbered}
use Rattle.bl_link.proofs.NumberedLists.{get_right}

-- ---- lists

pub map_itself : {A : Type 0} (xs : List A) → map (λ x. x) xs ≡ xs
map_itself [] = refl
map_itself (x ∷ xs) = ap (λ more. x ∷ more) (map_itself xs)

changed_right : {A : Type 0} (xs ys : List A) (j : ℕ) (c : A → A) → changed (length xs + j) c (xs ++ ys) ≡ xs ++ changed j c ys
changed_right [] ys j c = let e : 0 + j ≡ j = omega arith in ap (λ n. changed n c ys) e
changed_right (x ∷ xs) ys j c =
    let e : length (x ∷ xs) + j ≡ suc (length xs + j) = omega arith in
    ap (λ n. changed n c (x ∷ (xs ++ ys))) e ∙ ap (λ more. x ∷ more) (changed_right xs ys j c)

module _ {A B : Type 0} (f g : A → B) where
  changed_alike : (c d : A → A) → ((x y : A) → f x ≡ g y → f (c x) ≡ g (d y)) → (j : ℕ) (xs ys : List A) → map f xs ≡ map g ys → map f (changed j c xs) ≡ map g (changed j d ys)
  changed_alike c d h j [] [] e = refl
  changed_alike c d h j [] (y ∷ ys) e = absurd (cc e)
  changed_alike c d h j (x ∷ xs) [] e = absurd (cc e)
  changed_alike c d h zero (x ∷ xs) (y ∷ ys) e =
      let a : f x ≡ g y = cc in
      let b : map f xs ≡ map g ys = cc in
      ap₂ (λ (z : B) (more : List B). z ∷ more) (h x y a) b
  changed_alike c d h (suc j) (x ∷ xs) (y ∷ ys) e =
      let a : f x ≡ g y = cc in
      let b : map f xs ≡ map g ys = cc in
      ap₂ (λ (z : B) (more : List B). z ∷ more) a (changed_alike c d h j xs ys b)

  pub beside_changed : (c d : A → A) → ((x y : A) → f x ≡ g y → f (c x) ≡ g (d y)) → (stub here library there : List A) (m n : ℕ) → Same (length stub) (length library) m n
      → Beside f g stub here library there → Beside f g stub (changed m c here) library (changed n d there)
  beside_changed c d h stub here library there m n same beside = record {
    here = changed same.0 c beside.here;
    there = changed same.0 d beside.there;
    client_is = ap (changed m c) beside.client_is ∙ ap (λ m. changed m c (stub ++ beside.here)) same.1 ∙ changed_right stub beside.here same.0 c;
    whole_is = ap (changed n d) beside.whole_is ∙ ap (λ n. changed n d (library ++ beside.there)) same.2 ∙ changed_right library beside.there same.0 d;
    alike = changed_alike c d h same.0 beside.here beside.there beside.alike;
  }

  map_written : (f : A → B) (p : ℕ) (new x : List A) → map f (written p new x) ≡ take p (map f x) ++ map f new ++ drop (p + length new) (map f x)
  map_written f p new x =
      map-append f (take p x ++ new) (drop (p + length new) x)
      ∙ ap₂ (λ (a b : List B). a ++ b) (map-append f (take p x) new ∙ ap (λ (a : List B). a ++ map f new) (sym (take-map f p x))) (sym (drop-map f (p + length new) x))

  pub written_alike : (p q : ℕ) (new other x y : List A) → p ≡ q → map f new ≡ map g other → map f x ≡ map g y → map f (written p new x) ≡ map g (written q other y)
  written_alike p q new other x y at_one e h =
      let count : length new ≡ length other = sym (length-map new f) ∙ ap length e ∙ length-map other g in
      map_written f p new x
      ∙ ap₂ (λ (p n : ℕ). take p (map f x) ++ map f new ++ drop (p + n) (map f x)) at_one count
      ∙ ap₂ (λ (a b : List B). take q b ++ a ++ drop (q + length other) b) e h
      ∙ sym (map_written g q other y)

-- ---- initialisers

-- an initialiser names a global of so many
abbrev pub NamesGlobal : ℕ → List Instr → Type 0
NamesGlobal count (GlobalGet x ∷ []) = x < count
NamesGlobal count items = Unit {0}

pub offset_names : (globals : List GlobalType) (items : List Instr) → IsOffset globals items → NamesGlobal (length globals) items
offset_names globals [] h = tt
offset_names globals (GlobalGet x ∷ []) h = slice_get_within globals x (record { kind = I32; mutable = false }) h
offset_names globals (item ∷ []) h = tt
offset_names globals (GlobalGet x ∷ other ∷ more) h = tt
offset_names globals (item ∷ other ∷ more) h = tt

pub initial_names : (imports : List GlobalType) (count : ℕ) → length imports ≤ count → (kind : WasmType) (items : List Instr) → IsInitial imports kind items → NamesGlobal count items
initial_names imports count le kind [] h = tt
initial_names imports count le I32 (GlobalGet x ∷ []) h = let lt = slice_get_within imports x (record { kind = I32; mutable = false }) h in omega (arith, lt, le)
initial_names imports count le I64 (GlobalGet x ∷ []) h = let lt = slice_get_within imports x (record { kind = I64; mutable = false }) h in omega (arith, lt, le)
initial_names imports count le F32 (GlobalGet x ∷ []) h = let lt = slice_get_within imports x (record { kind = F32; mutable = false }) h in omega (arith, lt, le)
initial_names imports count le F64 (GlobalGet x ∷ []) h = let lt = slice_get_within imports x (record { kind = F64; mutable = false }) h in omega (arith, lt, le)
initial_names imports count le kind (item ∷ []) h = tt
initial_names imports count le kind (GlobalGet x ∷ other ∷ more) h = tt
initial_names imports count le kind (item ∷ other ∷ more) h = tt

module _ (s : Setting) (a b : Spaces) (alike : SpacesAlike s a b) where
  module _ (here there : List Global) (beside : Beside (λ x. x) (λ x. x) s.stub.globals here s.library.globals there) where
    found_same : (m n : ℕ) → Same (length s.stub.globals) (length s.library.globals) m n → slice_get here m ≡ slice_get there n
    found_same m n same =
        ap (λ k. slice_get here k) same.1 ∙ ap (λ xs. slice_get xs (length s.stub.globals + same.0)) beside.client_is ∙ get_right s.stub.globals beside.here same.0
        ∙ ap (λ xs. slice_get xs same.0) (sym (map_itself beside.here) ∙ beside.alike ∙ map_itself beside.there)
        ∙ sym (ap (λ k. slice_get there k) same.2 ∙ ap (λ xs. slice_get xs (length s.library.globals + same.0)) beside.whole_is ∙ get_right s.library.globals beside.there same.0)

    pub constants_same : (items : List Instr) → NamesGlobal (length a.globals) items → constant_value here a items ≡ constant_value there b items
    constants_same [] h = refl
    constants_same (GlobalGet x ∷ []) h =
        ap (λ o. unwrap_or (option_map (λ global. global.initial) o) 0) (found_same (number a.globals x) (number b.globals x) (zip_numbered (NumberAlike s export.Global) a.globals b.globals x alike.globals h))
    constants_same (item ∷ []) h = refl
    constants_same (I32Const n ∷ other ∷ more) h = refl
    constants_same (I64Const n ∷ other ∷ more) h = refl
    constants_same (GlobalGet x ∷ other ∷ more) h = refl
    constants_same (item ∷ other ∷ more) h = refl

    module _ (wasm : Module) (functions : length (functions_of wasm) ≡ length a.functions) (globals : length (globals_of wasm) ≡ length a.globals)
        (tables : length (tables_of wasm) ≡ length a.tables) (memories : length (memories_of wasm) ≡ length a.memories) where
      offset_same : (items : List Instr) → IsOffset (globals_of wasm) items → constant_value here a items ≡ constant_value there b items
      offset_same items h = constants_same items (subst (λ n. NamesGlobal n items) globals (offset_names (globals_of wasm) items h))

      slots_same : (fs : List ℕ) → All (λ f. f < length (functions_of wasm)) fs → slots_by s.ours (map (λ f. Some (number a.functions f)) fs) ≡ slots_by s.theirs (map (λ f. Some (number b.functions f)) fs)
      slots_same [] h = refl
      slots_same (f ∷ fs) h =
          let lt : f < length (functions_of wasm) = All-head (λ f. f < length (functions_of wasm)) f fs h in
          ap₂ (λ (x : Option ℕ) (more : List (Option ℕ)). x ∷ more)
          (ap Some (zip_numbered (NumberAlike s export.Function) a.functions b.functions f alike.functions (omega (arith, lt, functions))))
          (slots_same fs (All-tail (λ f. f < length (functions_of wasm)) f fs h))

      pub elements_beside : (segments : List ElementSegment) → All (IsElement wasm) segments → (ones others : List (List (Option ℕ))) → Beside (slots_by s.ours) (slots_by s.theirs) s.stub.tables ones s.library.tables others
          → Beside (slots_by s.ours) (slots_by s.theirs) s.stub.tables (fold (put_element here a) ones segments) s.library.tables (fold (put_element there b) others segments)
      elements_beside [] all ones others h = h
      elements_beside (segment ∷ segments) all ones others h =
          let is : IsElement wasm segment = All-head (IsElement wasm) segment segments all in
          elements_beside segments (All-tail (IsElement wasm) segment segments all) (put_element here a ones segment) (put_element there b others segment)
          (beside_changed (slots_by s.ours) (slots_by s.theirs)
          (written (constant_value here a segment.offset) (map (λ f. Some (number a.functions f)) segment.functions))
          (written (constant_value there b segment.offset) (map (λ f. Some (number b.functions f)) segment.functions))
          (λ x y e. written_alike (option_map s.ours.names.function) (option_map s.theirs.names.function) (constant_value here a segment.offset) (constant_value there b segment.offset)
          (map (λ f. Some (number a.functions f)) segment.functions) (map (λ f. Some (number b.functions f)) segment.functions) x y
          (offset_same segment.offset is.offset) (slots_same segment.functions is.functions) e)
          s.stub.tables ones s.library.tables others (number a.tables segment.table) (number b.tables segment.table)
          (zip_numbered (NumberAlike s export.Table) a.tables b.tables segment.table alike.tables (omega (arith, is.table, tables))) h)

      pub data_beside : (segments : List DataSegment) → All (IsData wasm) segments → (ones others : List Memory) → Beside (λ x. x) (λ x. x) s.stub.memories ones s.library.memories others
          → Beside (λ x. x) (λ x. x) s.stub.memories (fold (put_data here a) ones segments) s.library.memories (fold (put_data there b) others segments)
      data_beside [] all ones others h = h
      data_beside (segment ∷ segments) all ones others h =
          let is : IsData wasm segment = All-head (IsData wasm) segment segments all in
          data_beside segments (All-tail (IsData wasm) segment segments all) (put_data here a ones segment) (put_data there b others segment)
          (beside_changed (λ x. x) (λ x. x)
          (λ memory. record memory { bytes = written (constant_value here a segment.offset) segment.bytes memory.bytes })
          (λ memory. record memory { bytes = written (constant_value there b segment.offset) segment.bytes memory.bytes })
          (λ x y e. ap₂ (λ (p : ℕ) (memory : Memory). record memory { bytes = written p segment.bytes memory.bytes }) (offset_same segment.offset is.offset) e)
          s.stub.memories ones s.library.memories others (number a.memories segment.memory) (number b.memories segment.memory)
          (zip_numbered (NumberAlike s export.Memory) a.memories b.memories segment.memory alike.memories (omega (arith, is.memory, memories))) h)
