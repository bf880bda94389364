-- The types that entries cover, when entries are put on top and taken.
use Rattle.std.proofs.Common.{◌≡◌, ◌↔◌, ◌++◌, List, [], ◌∷◌, length, reverse, map, flat_map, Bool, false, Option, Some, None, refl, sym, ap, ◌∙◌, subst, append-nil}
use Rattle.std.proofs.lemmas.List.{reverse-append, reverse-reverse, append_assoc, map-append}
use Rattle.std.proofs.lemmas.Grind.{flat_map-append}
use Rattle.bl_wasm.specs.declared.types.WasmType.{WasmType}
use Rattle.bl_wasm.specs.declared.types.WasmType.TheVariants.{I32}
use Rattle.bl_validate.specs.declared.operands.Run.{Run}
use Rattle.bl_validate.specs.MayStand.{Fits, Covers, entries}

abbrev Entries : Type 0
Entries = List (Option WasmType)

-- the last elements of two lists, and what stands before them
pub snoc_left : {A : Type 0} (s s' : List A) (t t' : A) → s ++ t ∷ [] ≡ s' ++ t' ∷ [] → s ≡ s'
snoc_left s s' t t' e =
    let r : t ∷ reverse s ≡ t' ∷ reverse s' = simp reverse-append at (ap reverse e) in
    let q : reverse s ≡ reverse s' = cc in
    let p : reverse (reverse s) ≡ reverse (reverse s') = ap reverse q in
    simp reverse-reverse at p

pub snoc_right : {A : Type 0} (s s' : List A) (t t' : A) → s ++ t ∷ [] ≡ s' ++ t' ∷ [] → t ≡ t'
snoc_right s s' t t' e = let r : t ∷ reverse s ≡ t' ∷ reverse s' = simp reverse-append at (ap reverse e) in cc

pub snoc_some : {A : Type 0} (s : List A) (t : A) → s ++ t ∷ [] ≡ [] → ⊥
snoc_some [] t e = cc
snoc_some (x ∷ s) t e = cc

reverse_map : {A B : Type 0} (f : A → B) (xs : List A) → reverse (map f xs) ≡ map f (reverse xs)
reverse_map f [] = refl
reverse_map f (x ∷ xs) =
    reverse-append (f x ∷ []) (map f xs) ∙ ap (λ ys. ys ++ f x ∷ []) (reverse_map f xs)
    ∙ sym (ap (map f) (reverse-append (x ∷ []) xs) ∙ map-append f (reverse xs) (x ∷ []))

-- ---- one entry on top

pub covers_last : (u : Bool) (es : Entries) (e : Option WasmType) (s : List WasmType) (t : WasmType)
    → Covers u (reverse (es ++ e ∷ [])) (s ++ t ∷ []) ↔ (Fits e t × Covers u (reverse es) s)
covers_last u es e s t = rw (reverse-append es (e ∷ [])) (
  λ c. let st : c.0 ≡ s = snoc_left c.0 s c.1 t (sym c.2) in
      let is : c.1 ≡ t = snoc_right c.0 s c.1 t (sym c.2) in
      (subst (Fits e) is c.3, subst (Covers u (reverse es)) st c.4),
  λ p. (s, t, refl, p.0, p.1),
)

pub covers_more : (u : Bool) (es : Entries) (e : Option WasmType) (s : List WasmType)
    → Covers u (reverse (es ++ e ∷ [])) s
    ↔ ((below : List WasmType) × (type : WasmType) × (s ≡ below ++ type ∷ []) × Fits e type × Covers u (reverse es) below)
covers_more u es e s = rw (reverse-append es (e ∷ [])) (λ c. c, λ c. c)

-- ---- a list of types on top

covers_onto : (u : Bool) (rs : List WasmType) (es : Entries) (s : List WasmType)
    → Covers u (map Some rs ++ es) s ↔ ((below : List WasmType) × (s ≡ below ++ reverse rs) × Covers u es below)
covers_onto u [] es s = (λ c. (s, sym (append-nil s), c), λ p. subst (Covers u es) (sym (p.1 ∙ append-nil p.0)) p.2)
covers_onto u (r ∷ rs) es s =
    let turned : reverse (r ∷ rs) ≡ reverse rs ++ r ∷ [] = reverse-append (r ∷ []) rs in (
      λ c. let p = (covers_onto u rs es c.0).0 c.4 in
          (p.0, c.2 ∙ ap (λ b. b ++ c.1 ∷ []) p.1 ∙ append_assoc p.0 (reverse rs) (c.1 ∷ []) ∙ ap (λ t. p.0 ++ (reverse rs ++ t ∷ [])) (sym c.3) ∙ ap (λ l. p.0 ++ l) (sym turned), p.2),
      λ p. (p.0 ++ reverse rs, r, p.1 ∙ ap (λ l. p.0 ++ l) turned ∙ sym (append_assoc p.0 (reverse rs) (r ∷ [])), refl, (covers_onto u rs es (p.0 ++ reverse rs)).1 (p.0, refl, p.2)),
    )

pub covers_list : (u : Bool) (es : Entries) (types s : List WasmType)
    → Covers u (reverse (es ++ map Some types)) s ↔ ((below : List WasmType) × (s ≡ below ++ types) × Covers u (reverse es) below)
covers_list u es types s =
    let turned : reverse (es ++ map Some types) ≡ map Some (reverse types) ++ reverse es = reverse-append es (map Some types) ∙ ap (λ l. l ++ reverse es) (reverse_map Some types) in
    let onto = covers_onto u (reverse types) (reverse es) s in
    rw (turned) (rw (reverse-reverse types) at onto)

-- these types and no others
pub covers_these : (types s : List WasmType) → Covers false (reverse (map Some types)) s ↔ (s ≡ types)
covers_these types s =
    let on = covers_list false [] types s in (
      λ c. let p = on.0 c in p.1 ∙ ap (λ b. b ++ types) (p.2 refl),
      λ e. on.1 ([], e, λ _. refl),
    )

-- no operands
pub covers_none : (u : Bool) (es : Entries) → Covers u (reverse es) [] → es ≡ []
covers_none u es c = sym (reverse-reverse es) ∙ ap reverse (by_top (reverse es) c)
  where
    by_top : (rs : Entries) → Covers u rs [] → rs ≡ []
    by_top [] c = refl
    by_top (r ∷ rs) c = absurd (snoc_some c.0 c.1 (sym c.2))

-- some types are those of the entries
pub covered : (u : Bool) (es : Entries) → (s : List WasmType) × Covers u es s
covered u [] = ([], λ k. refl)
covered u (Some t ∷ es) = let p = covered u es in (p.0 ++ t ∷ [], (p.0, t, refl, refl, p.1))
covered u (None ∷ es) = let p = covered u es in (p.0 ++ I32 ∷ [], (p.0, I32, refl, tt, p.1))

-- ---- the entries of runs

pub last_of_list : (front : Entries) (top below : List WasmType) (last : WasmType) → top ≡ below ++ last ∷ []
    → front ++ map Some top ≡ (front ++ map Some below) ++ Some last ∷ []
last_of_list front top below last e =
    ap (λ l. front ++ map Some l) e ∙ ap (λ l. front ++ l) (map-append Some below (last ∷ [])) ∙ sym (append_assoc front (map Some below) (Some last ∷ []))

pub last_of_runs : (runs before : List Run) (run : Run) → runs ≡ before ++ run ∷ []
    → flat_map entries runs ≡ (flat_map entries before ++ map Some run.below.now) ++ run.last ∷ []
last_of_runs runs before run e =
    ap (flat_map entries) e ∙ flat_map-append entries before (run ∷ []) ∙ ap (λ l. flat_map entries before ++ l) (append-nil (entries run))
    ∙ sym (append_assoc (flat_map entries before) (map Some run.below.now) (run.last ∷ []))

-- no runs and no list
pub none_known : (runs : List Run) (top : List WasmType) → flat_map entries runs ++ map Some top ≡ [] → (length runs ≡ 0) × (length top ≡ 0)
none_known [] [] e = (refl, refl)
none_known [] (t ∷ top) e = absurd (cc e)
none_known (run ∷ runs) top e = absurd (by_below run.below.now e)
  where
    by_below : (below : List WasmType) → ((map Some below ++ run.last ∷ []) ++ flat_map entries runs) ++ map Some top ≡ [] → ⊥
    by_below [] e = cc e
    by_below (b ∷ below) e = cc e
