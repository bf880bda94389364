-- What several operands taken or put one after another do, over the types that may stand before and behind.
use Rattle.std.proofs.Common.{◌≡◌, ◌↔◌, ◌++◌, List, [], ◌∷◌, Option, Some, None, MatchOption, is_some, Bool, true, false, IsTrue, IsFalse, refl, sym, ◌∙◌, subst, append-nil, reverse}
use Rattle.std.proofs.lemmas.List.{append_assoc}
use Rattle.bl_wasm.specs.Typing.{Arrow}
use Rattle.bl_wasm.specs.declared.types.WasmType.{WasmType}
use Rattle.bl_wasm.specs.declared.types.WasmType.TheVariants.{I32}
use Rattle.bl_validate.specs.MayStand.{Fits, Covers}
use Rattle.bl_validate.proofs.CoverLemmas.{covers_last, snoc_some}

abbrev Sets : Type 1
Sets = List WasmType → Type 0

-- the last entry is taken
pub pops_entry : (u : Bool) (old new : List (Option WasmType)) (e : Option WasmType) → old ≡ new ++ e ∷ []
    → (s : List WasmType) (t : WasmType) → Covers u (reverse old) (s ++ t ∷ []) ↔ (Fits e t × Covers u (reverse new) s)
pops_entry u old new e is s t = rw is (covers_last u new e s t)

-- no entry is known
pub pops_none : (u : Bool) (es : List (Option WasmType)) → es ≡ [] → (s : List WasmType) → Covers u (reverse es) s ↔ (IsFalse u → s ≡ [])
pops_none u es is s = rw is (λ c. c, λ c. c)

-- ---- a list of types

-- an operand of another type stands there
pub pop_other : (S0 S1 S2 : Sets) (all xs : List WasmType) (k : WasmType) (e : Option WasmType) (ok : Bool) → ok ≡ false → IsTrue ok ↔ Fits e k
    → ((s : List WasmType) → S0 (s ++ all) ↔ S1 (s ++ (xs ++ k ∷ [])))
    → ((s : List WasmType) (t : WasmType) → S1 (s ++ t ∷ []) ↔ (Fits e t × S2 s))
    → (s : List WasmType) → S0 (s ++ all) ↔ (IsTrue false × S2 s)
pop_other S0 S1 S2 all xs k e ok isnt fit before one s =
    let a : s ++ (xs ++ k ∷ []) ≡ (s ++ xs) ++ k ∷ [] = sym (append_assoc s xs (k ∷ [])) in (
      λ h. let q = (one (s ++ xs) k).0 (subst S1 a ((before s).0 h)) in let b : IsTrue ok = fit.1 q.0 in absurd (cc (isnt, b)),
      λ h. absurd (cc h.0),
    )

-- no operand is known: any may stand there, or none
pub pop_rest : (S0 S1 S2 : Sets) (all xs : List WasmType) (k : WasmType) (u : Bool)
    → ((s : List WasmType) → S0 (s ++ all) ↔ S1 (s ++ (xs ++ k ∷ [])))
    → ((s : List WasmType) → (S1 s ↔ (IsFalse u → s ≡ [])) × (S2 s ↔ (IsFalse u → s ≡ [])))
    → (s : List WasmType) → S0 (s ++ all) ↔ (IsTrue u × S2 s)
pop_rest S0 S1 S2 all xs k true before none s = (
  λ h. (refl, (none s).1.1 (λ e. absurd (cc e))),
  λ h. (before s).1 ((none (s ++ (xs ++ k ∷ []))).0.1 (λ e. absurd (cc e))),
)
pop_rest S0 S1 S2 all xs k false before none s = (
  λ h. let e = (none (s ++ (xs ++ k ∷ []))).0.0 ((before s).0 h) refl in absurd (snoc_some (s ++ xs) k (append_assoc s xs (k ∷ []) ∙ e)),
  λ h. absurd (cc h.0),
)

pub first_unpopped : (S0 S1 S2 : Sets) (below above : List WasmType) (ok done : Bool) → ok ≡ false → done ≡ false
    → ((s : List WasmType) → S0 (s ++ above) ↔ (IsTrue ok × S1 s))
    → (s : List WasmType) → S0 (s ++ (below ++ above)) ↔ (IsTrue done × S2 s)
first_unpopped S0 S1 S2 below above ok done isnt not first s =
    let a : (s ++ below) ++ above ≡ s ++ (below ++ above) = append_assoc s below above in (
      λ h. let b : IsTrue ok = ((first (s ++ below)).0 (subst S0 (sym a) h)).0 in absurd (cc (isnt, b)),
      λ h. let b : IsTrue done = h.0 in absurd (cc (not, b)),
    )

-- ---- operands of any type

-- `drop`
pub drops : (S0 S2 : Sets) (o : Option (Option WasmType))
    → ((s : List WasmType) (t : WasmType) → S0 (s ++ t ∷ []) ↔ MatchOption o ⊥ (λ e. Fits e t × S2 s))
    → (to : List WasmType) → (IsTrue (is_some o) × S2 to) ↔ ((from : List WasmType) × ((type : WasmType) × Arrow (type ∷ []) [] from to) × S0 from)
drops S0 S2 None h to = (λ x. absurd (cc x.0), λ p. absurd ((h p.1.1.lower p.1.0).0 (subst S0 p.1.1.before p.2)))
drops S0 S2 (Some e) h to = (forth, back)
  where
    some_type : (e : Option WasmType) → (t : WasmType) × Fits e t
    some_type None = (I32, tt)
    some_type (Some t) = (t, refl)

    forth : IsTrue true × S2 to → (from : List WasmType) × ((type : WasmType) × Arrow (type ∷ []) [] from to) × S0 from
    forth x =
        let t = some_type e in
        (to ++ t.0 ∷ [], (t.0, record { lower = to; before = refl; behind = sym (append-nil to) }), (h to t.0).1 (t.1, x.1))

    back : (from : List WasmType) × ((type : WasmType) × Arrow (type ∷ []) [] from to) × S0 from → IsTrue true × S2 to
    back p =
        let same : p.1.1.lower ≡ to = sym (append-nil p.1.1.lower) ∙ sym p.1.1.behind in
        (refl, subst S2 same ((h p.1.1.lower p.1.0).0 (subst S0 p.1.1.before p.2)).1)

-- two operands of one type
pub no_second : (S0 : Sets) → ((s : List WasmType) (t : WasmType) → S0 (s ++ t ∷ []) ↔ ⊥) → (s : List WasmType) (t : WasmType) → S0 (s ++ t ∷ t ∷ []) ↔ ⊥
no_second S0 h s t = (λ g. (h (s ++ t ∷ []) t).0 (subst S0 (sym (append_assoc s (t ∷ []) (t ∷ []))) g), λ b. absurd b)

pub no_first : (S0 S1 : Sets) (second : Option WasmType) → ((s : List WasmType) (t : WasmType) → S0 (s ++ t ∷ []) ↔ (Fits second t × S1 s))
    → ((s : List WasmType) (t : WasmType) → S1 (s ++ t ∷ []) ↔ ⊥) → (s : List WasmType) (t : WasmType) → S0 (s ++ t ∷ t ∷ []) ↔ ⊥
no_first S0 S1 second h k s t = (λ g. (k s t).0 ((h (s ++ t ∷ []) t).0 (subst S0 (sym (append_assoc s (t ∷ []) (t ∷ []))) g)).1, λ b. absurd b)

pub both : (S0 S1 S2 : Sets) (first second : Option WasmType) (o : Option (Option WasmType))
    → ((s : List WasmType) (t : WasmType) → S0 (s ++ t ∷ []) ↔ (Fits second t × S1 s))
    → ((s : List WasmType) (t : WasmType) → S1 (s ++ t ∷ []) ↔ (Fits first t × S2 s))
    → ((t : WasmType) → (Fits first t × Fits second t) ↔ MatchOption o ⊥ (λ e. Fits e t))
    → (s : List WasmType) (t : WasmType) → S0 (s ++ t ∷ t ∷ []) ↔ MatchOption o ⊥ (λ e. Fits e t × S2 s)
both S0 S1 S2 first second o h k m s t = by_met o (m t)
  where
    e : s ++ t ∷ t ∷ [] ≡ (s ++ t ∷ []) ++ t ∷ []
    e = sym (append_assoc s (t ∷ []) (t ∷ []))

    by_met : (o : Option (Option WasmType)) → (Fits first t × Fits second t) ↔ MatchOption o ⊥ (λ e. Fits e t) → S0 (s ++ t ∷ t ∷ []) ↔ MatchOption o ⊥ (λ e. Fits e t × S2 s)
    by_met None n = (λ g. let a = (h (s ++ t ∷ []) t).0 (subst S0 e g) in let b = (k s t).0 a.1 in n.0 (b.0, a.0), λ b. absurd b)
    by_met (Some x) n = (
      λ g. let a = (h (s ++ t ∷ []) t).0 (subst S0 e g) in let b = (k s t).0 a.1 in (n.0 (b.0, a.0), b.1),
      λ p. let f = n.1 p.0 in subst S0 (sym e) ((h (s ++ t ∷ []) t).1 (f.1, (k s t).1 (f.0, p.1))),
    )

-- `select`
abbrev Selects : List WasmType → List WasmType → Type 0
Selects from to = (type : WasmType) × Arrow (type ∷ type ∷ I32 ∷ []) (type ∷ []) from to

pub selected : (S0 S1 S2 S3 : Sets) (ok : Bool) (e : Option WasmType) → ok ≡ true
    → ((s : List WasmType) → S0 (s ++ I32 ∷ []) ↔ (IsTrue ok × S1 s))
    → ((s : List WasmType) (t : WasmType) → S1 (s ++ t ∷ t ∷ []) ↔ (Fits e t × S2 s))
    → ((s : List WasmType) → S3 s ↔ ((below : List WasmType) × (type : WasmType) × (s ≡ below ++ type ∷ []) × Fits e type × S2 below))
    → (to : List WasmType) → (IsTrue true × S3 to) ↔ ((from : List WasmType) × Selects from to × S0 from)
selected S0 S1 S2 S3 ok e is one two put to = (forth, back)
  where
    forth : IsTrue true × S3 to → (from : List WasmType) × Selects from to × S0 from
    forth x =
        let p = (put to).0 x.1 in
        let t = p.1 in
        let g : S0 ((p.0 ++ p.1 ∷ p.1 ∷ []) ++ I32 ∷ []) = (one (p.0 ++ p.1 ∷ p.1 ∷ [])).1 (is, (two p.0 p.1).1 (p.3, p.4)) in
        (p.0 ++ p.1 ∷ p.1 ∷ I32 ∷ [], (p.1, record { lower = p.0; before = refl; behind = p.2 }), subst S0 (append_assoc p.0 (p.1 ∷ p.1 ∷ []) (I32 ∷ [])) g)

    back : (from : List WasmType) × Selects from to × S0 from → IsTrue true × S3 to
    back p =
        let low = p.1.1.lower in
        let g : S0 ((p.1.1.lower ++ p.1.0 ∷ p.1.0 ∷ []) ++ I32 ∷ [])
        = subst S0 (p.1.1.before ∙ sym (append_assoc p.1.1.lower (p.1.0 ∷ p.1.0 ∷ []) (I32 ∷ []))) p.2 in
        let q = (two p.1.1.lower p.1.0).0 ((one (p.1.1.lower ++ p.1.0 ∷ p.1.0 ∷ [])).0 g).1 in
        (refl, (put to).1 (p.1.1.lower, p.1.0, p.1.1.behind, q.0, q.1))

pub not_condition : (S0 S1 S3 : Sets) (ok : Bool) → ok ≡ false
    → ((s : List WasmType) → S0 (s ++ I32 ∷ []) ↔ (IsTrue ok × S1 s))
    → (to : List WasmType) → (IsTrue false × S3 to) ↔ ((from : List WasmType) × Selects from to × S0 from)
not_condition S0 S1 S3 ok isnt one to = (λ x. absurd (cc x.0), back)
  where
    back : (from : List WasmType) × Selects from to × S0 from → IsTrue false × S3 to
    back p =
        let g : S0 ((p.1.1.lower ++ p.1.0 ∷ p.1.0 ∷ []) ++ I32 ∷ [])
        = subst S0 (p.1.1.before ∙ sym (append_assoc p.1.1.lower (p.1.0 ∷ p.1.0 ∷ []) (I32 ∷ []))) p.2 in
        let b : IsTrue ok = ((one (p.1.1.lower ++ p.1.0 ∷ p.1.0 ∷ [])).0 g).0 in absurd (cc (isnt, b))

pub not_pair : (S0 S1 S3 : Sets) (ok : Bool)
    → ((s : List WasmType) → S0 (s ++ I32 ∷ []) ↔ (IsTrue ok × S1 s))
    → ((s : List WasmType) (t : WasmType) → S1 (s ++ t ∷ t ∷ []) ↔ ⊥)
    → (to : List WasmType) → (IsTrue false × S3 to) ↔ ((from : List WasmType) × Selects from to × S0 from)
not_pair S0 S1 S3 ok one two to = (λ x. absurd (cc x.0), back)
  where
    back : (from : List WasmType) × Selects from to × S0 from → IsTrue false × S3 to
    back p =
        let g : S0 ((p.1.1.lower ++ p.1.0 ∷ p.1.0 ∷ []) ++ I32 ∷ [])
        = subst S0 (p.1.1.before ∙ sym (append_assoc p.1.1.lower (p.1.0 ∷ p.1.0 ∷ []) (I32 ∷ []))) p.2 in
        absurd ((two p.1.1.lower p.1.0).0 ((one (p.1.1.lower ++ p.1.0 ∷ p.1.0 ∷ [])).0 g).1)
