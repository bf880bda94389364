-- A section more.
use Rattle.std.proofs.Common.{◌≡◌, ◌∙◌, ap, sym, subst, refl, ℕ, suc, ◌≤◌, ◌⊎◌, inl, inr, List, [], ◌∷◌, ◌++◌, append_assoc, arith}
use Rattle.bl_wasm.specs.declared.module.Code.{Code}
use Rattle.bl_decode.specs.ModulePrefixes.{EarlyContents, early_section, BeginsCode, BeginsFrom, code, custom_first, next, BeginsWith}
use Rattle.bl_decode.specs.ScanStates.{Passed, Closed}
use Rattle.bl_decode.proofs.ModulePrefixLemmas.{Shaped, shape, shaped_begins, behind_section, whole_section, not_ten}

module _ (least id : ℕ) (contents part front : List ℕ) (p : Passed least front) (shaped : Shaped id contents part) where
  -- a custom section more
  pub passed_custom : id ≡ 0 → EarlyContents id contents → Passed least (front ++ part)
  passed_custom zero_id h = record {
    there = λ tail bodies b.
        subst (λ t. BeginsWith t bodies) (sym (append_assoc front part tail))
        (p.there (part ++ tail) bodies (custom_first least part tail bodies (subst (λ i. early_section i part) zero_id (whole_section id contents part [] shaped h)) b));
    asked = λ tail bodies b.
        let begins = p.asked (part ++ tail) bodies (subst (λ t. BeginsWith t bodies) (append_assoc front part tail) b) in
        elim (behind_section id contents part tail shaped least (part ++ tail) bodies (λ ten. omega (arith, ten, zero_id)) refl begins).1 [
          | inl left ↦ left.1
          | inr left ↦ (let some = left.0 in absurd (omega arith))
        ];
  }

  -- another one more
  pub passed_section : 1 ≤ id → least ≤ id → EarlyContents id contents → Passed (suc id) (front ++ part)
  passed_section some le h = record {
    there = λ tail bodies b.
        subst (λ t. BeginsWith t bodies) (sym (append_assoc front part tail))
        (p.there (part ++ tail) bodies (next least id part tail bodies le some (whole_section id contents part [] shaped h) b));
    asked = λ tail bodies b.
        let begins = p.asked (part ++ tail) bodies (subst (λ t. BeginsWith t bodies) (append_assoc front part tail) b) in
        elim (behind_section id contents part tail shaped least (part ++ tail) bodies (not_ten id contents h) refl begins).1 [
          | inl left ↦ (let none = left.0 in absurd (omega arith))
          | inr left ↦ left.2
        ];
  }

  -- one whose contents are none
  pub closed_section : (id ≡ 10 → ⊥) → (EarlyContents id contents → ⊥) → (rest : List ℕ) → Closed (front ++ (part ++ rest)) []
  closed_section other none rest = record {
    there = inl refl;
    most = λ tail all b.
        let whole : (front ++ (part ++ rest)) ++ tail ≡ front ++ (part ++ (rest ++ tail)) = append_assoc front (part ++ rest) tail ∙ ap (λ t. front ++ t) (append_assoc part rest tail) in
        let begins = p.asked (part ++ (rest ++ tail)) all (subst (λ t. BeginsWith t all) whole b) in
        absurd (none (behind_section id contents part (rest ++ tail) shaped least (part ++ (rest ++ tail)) all other refl begins).0);
  }

-- what bytes begin with, by their first one
pub record FirstSection (least id : ℕ) (bytes : List ℕ) : Type 0 where
  pub contents : List ℕ
  pub part : List ℕ
  pub rest : List ℕ
  pub shaped : Shaped id contents part
  pub early : EarlyContents id contents
  pub whole : bytes ≡ part ++ rest
  pub rising : (id ≡ 0) ⊎ (least ≤ id)

pub by_first : (least id : ℕ) (t u : List ℕ) (bodies : List Code) → t ≡ id ∷ u → BeginsFrom least t bodies → ((id ≡ 10) × BeginsCode u bodies) ⊎ FirstSection least id t
by_first least id t u bodies e (code _ v _ b) = inl (let same : 10 ≡ id = cc in sym same, subst (λ l. BeginsCode l bodies) (let same : v ≡ u = cc in same) b)
by_first least id t u bodies e (custom_first _ front rest _ s more) =
    let h = shape front s in
    let first = shaped_begins 0 h.0 front h.2 in
    let all : 0 ∷ (first.0 ++ rest) ≡ id ∷ u = sym (ap (λ l. l ++ rest) first.1) ∙ e in
    let same : 0 ≡ id = cc in
    inr (record { contents = h.0; part = front; rest = rest; shaped = subst (λ i. Shaped i h.0 front) same h.2; early = subst (λ i. EarlyContents i h.0) same h.1; whole = refl; rising = inl (sym same) })
by_first least id t u bodies e (next _ j front rest _ le some s more) =
    let h = shape front s in
    let first = shaped_begins j h.0 front h.2 in
    let all : j ∷ (first.0 ++ rest) ≡ id ∷ u = sym (ap (λ l. l ++ rest) first.1) ∙ e in
    let same : j ≡ id = cc in
    inr (record { contents = h.0; part = front; rest = rest; shaped = subst (λ i. Shaped i h.0 front) same h.2; early = subst (λ i. EarlyContents i h.0) same h.1; whole = refl; rising = inr (subst (λ i. least ≤ i) same le) })

pub none_empty : (least : ℕ) (t : List ℕ) (bodies : List Code) → t ≡ [] → BeginsFrom least t bodies → ⊥
none_empty least t bodies e (code _ v _ b) = cc
none_empty least t bodies e (custom_first _ front rest _ s more) =
    let h = shape front s in
    let first = shaped_begins 0 h.0 front h.2 in
    let all : 0 ∷ (first.0 ++ rest) ≡ [] = sym (ap (λ l. l ++ rest) first.1) ∙ e in
    cc
none_empty least t bodies e (next _ j front rest _ le some s more) =
    let h = shape front s in
    let first = shaped_begins j h.0 front h.2 in
    let all : j ∷ (first.0 ++ rest) ≡ [] = sym (ap (λ l. l ++ rest) first.1) ∙ e in
    cc
