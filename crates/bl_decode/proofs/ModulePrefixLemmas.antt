-- What bytes begin with.
use Rattle.std.proofs.Common.{◌≡◌, ◌∙◌, ap, sym, subst, refl, ℕ, suc, ◌<◌, ◌≤◌, ◌⊎◌, inl, inr, List, [], ◌∷◌, ◌++◌, length, arith}
use Rattle.bl_leb.specs.Grammar.{Spellings, ◌⨾◌, byte}
use Rattle.bl_wasm.specs.Values.{byte_vec}
use Rattle.bl_wasm.specs.Sections.{section}
use Rattle.bl_wasm.specs.declared.module.Code.{Code}
use Rattle.bl_code.specs.Unique.{Same}
use Rattle.bl_code.proofs.Unique.{byte_same, seq_same, byte_vec_prefix_free, each_same, u32_same}
use Rattle.bl_base.proofs.Lists.{rest_same}
use Rattle.bl_decode.specs.Laws.{code_entry_prefix_free}
use Rattle.bl_decode.specs.ModulePrefixes.{EarlyContents, custom, early_section, BeginsCode, BeginsFrom, code, custom_first, next, header, BeginsWith, AreBodies}

-- a whole section by its id and its contents, whatever they are
abbrev pub Shaped : ℕ → List ℕ → Spellings
Shaped id contents = byte id ⨾ byte_vec contents

pub shape : {id : ℕ} {C : Spellings} (bytes : List ℕ) → section id C bytes → (contents : List ℕ) × C contents × Shaped id contents bytes
shape bytes s = (
  s.second.contents,
  s.second.spelled,
  record {
    front = s.front;
    rest = s.rest;
    whole = s.whole;
    first = s.first;
    second = record { front = s.second.size; rest = s.second.contents; whole = s.second.whole; first = s.second.counted; second = refl };
  },
)

shaped_same : (i j : ℕ) (c d : List ℕ) → Same (Shaped i c) (Shaped j d) ((i ≡ j) × (c ≡ d))
shaped_same i j c d = seq_same (byte_same i j) (λ e. record { both = λ a b u v p q w. let s = (byte_vec_prefix_free.same c d).both a b u v p q w in (s.0, (e, s.1)) })

-- what a section begins with
pub shaped_begins : (id : ℕ) (contents front : List ℕ) → Shaped id contents front → (rest : List ℕ) × (front ≡ id ∷ rest)
shaped_begins id contents front s = (s.rest, s.whole ∙ ap (λ l. l ++ s.rest) s.first)

-- the code section's id begins no other section
not_code : (id : ℕ) (contents front rest t : List ℕ) → (id ≡ 10 → ⊥) → Shaped id contents front → 10 ∷ t ≡ front ++ rest → ⊥
not_code id contents front rest t other s e =
    let first = shaped_begins id contents front s in
    let all : 10 ∷ t ≡ id ∷ (first.0 ++ rest) = e ∙ ap (λ l. l ++ rest) first.1 in
    let same : 10 ≡ id = cc in
    other (sym same)

-- such contents have an id below 10
pub below_ten : (id : ℕ) (bytes : List ℕ) → EarlyContents id bytes → id < 10
below_ten id bytes (custom _ x s) = omega arith
below_ten id bytes _ = omega arith

pub not_ten : (id : ℕ) (bytes : List ℕ) → EarlyContents id bytes → id ≡ 10 → ⊥
not_ten id bytes h ten = let below = below_ten id bytes h in omega arith

-- what is left behind a section
abbrev pub Left : ℕ → ℕ → List ℕ → List ℕ → List Code → Type 0
Left least id contents rest bodies =
    EarlyContents id contents × (((id ≡ 0) × BeginsFrom least rest bodies) ⊎ ((1 ≤ id) × (least ≤ id) × BeginsFrom (suc id) rest bodies))

module _ (id : ℕ) (contents front rest : List ℕ) (shaped : Shaped id contents front) where
  same_section : (j : ℕ) (d other behind : List ℕ) → Shaped j d other → other ++ behind ≡ front ++ rest → (j ≡ id) × (d ≡ contents) × (behind ≡ rest)
  same_section j d other behind s e =
      let same = (shaped_same j id d contents).both other front behind rest s shaped e in
      (same.1.0, same.1.1, rest_same other front behind rest same.0 e)

  pub behind_section : (least : ℕ) (t : List ℕ) (bodies : List Code) → (id ≡ 10 → ⊥) → t ≡ front ++ rest → BeginsFrom least t bodies → Left least id contents rest bodies
  behind_section least t bodies other e (code _ u _ b) = absurd (not_code id contents front rest u other shaped e)
  behind_section least t bodies other e (custom_first _ first behind _ s more) =
      let h = shape first s in
      let same = same_section 0 h.0 first behind h.2 e in
      (subst (λ i. EarlyContents i contents) same.0 (subst (λ c. EarlyContents 0 c) same.1 h.1), inl (sym same.0, subst (λ r. BeginsFrom least r bodies) same.2 more))
  behind_section least t bodies other e (next _ j first behind _ le some s more) =
      let h = shape first s in
      let same = same_section j h.0 first behind h.2 e in (
        subst (λ i. EarlyContents i contents) same.0 (subst (λ c. EarlyContents j c) same.1 h.1),
        inr (subst (λ i. 1 ≤ i) same.0 some, subst (λ i. least ≤ i) same.0 le, subst (λ i. BeginsFrom (suc i) rest bodies) same.0 (subst (λ r. BeginsFrom (suc j) r bodies) same.2 more)),
      )

  pub whole_section : EarlyContents id contents → early_section id front
  whole_section h = record {
    front = shaped.front;
    rest = shaped.rest;
    whole = shaped.whole;
    first = shaped.first;
    second = record { size = shaped.second.front; contents = contents; whole = shaped.second.whole ∙ ap (λ l. shaped.second.front ++ l) shaped.second.second; counted = shaped.second.first; spelled = h };
  }

-- behind the code section's id
pub behind_code : (least : ℕ) (t u : List ℕ) (bodies : List Code) → t ≡ 10 ∷ u → BeginsFrom least t bodies → BeginsCode u bodies
behind_code least t u bodies e (code _ v _ b) = subst (λ l. BeginsCode l bodies) (let same : v ≡ u = cc in same) b
behind_code least t u bodies e (custom_first _ front rest _ s more) =
    let h = shape front s in absurd (not_code 0 h.0 front rest u (λ z. omega (arith, z)) h.2 (sym e))
behind_code least t u bodies e (next _ id front rest _ le some s more) =
    let h = shape front s in
    absurd (not_code id h.0 front rest u (not_ten id h.0 h.1) h.2 (sym e))

-- ---- bodies

pub header_cancels : (t u : List ℕ) → header ++ t ≡ header ++ u → t ≡ u
header_cancels t u e = rest_same header header t u refl e

pub empty_of : (xs : List Code) → length xs ≤ 0 → xs ≡ []
empty_of [] le = refl
empty_of (x ∷ xs) le = absurd (omega (arith, le))

-- the code section's beginning is told in one way
same_code : (t : List ℕ) (one other : List Code) → BeginsCode t one → BeginsCode t other → length one ≡ length other → one ≡ other
same_code t one other a b long =
    let code = sym a.whole ∙ b.whole in
    let sizes = (u32_same a.room b.room).both a.size b.size _ _ a.sized b.sized code in
    let after_size = rest_same a.size b.size _ _ sizes.0 code in
    let counts = (u32_same a.promised b.promised).both a.count b.count _ _ a.counted b.counted after_size in
    let after_count = rest_same a.count b.count _ _ counts.0 after_size in
    ((each_same code_entry_prefix_free one other long).both a.entries b.entries a.rest b.rest a.spelled b.spelled after_count).1

same_from : (least : ℕ) (t : List ℕ) (one other : List Code) → BeginsFrom least t one → BeginsFrom least t other → length one ≡ length other → one ≡ other
same_from least t one other (code _ u _ a) b long = same_code u one other a (behind_code least _ u other refl b) long
same_from least t one other (custom_first _ front rest _ s more) b long =
    let h = shape front s in
    let left = behind_section 0 h.0 front rest h.2 least (front ++ rest) other (λ z. omega (arith, z)) refl b in
    elim left.1 [
      | inl zero ↦ same_from least rest one other more zero.1 long
      | inr positive ↦ (let some = positive.0 in absurd (omega arith))
    ]
same_from least t one other (next _ id front rest _ le some s more) b long =
    let h = shape front s in
    let left = behind_section id h.0 front rest h.2 least (front ++ rest) other (not_ten id h.0 h.1) refl b in
    elim left.1 [
      | inl zero ↦ (let none = zero.0 in absurd (omega arith))
      | inr positive ↦ same_from (suc id) rest one other more positive.2 long
    ]

module _ (bytes : List ℕ) (one other : List Code) where
  by_cases : ((one ≡ []) ⊎ BeginsWith bytes one) → ((other ≡ []) ⊎ BeginsWith bytes other) → AreBodies bytes one → AreBodies bytes other → one ≡ other
  by_cases (inl e) (inl f) a b = e ∙ sym f
  by_cases (inl e) (inr g) a b = e ∙ sym (empty_of other (let le = a.most other g in let zero = ap length e in omega arith))
  by_cases (inr g) (inl f) a b = empty_of one (let le = b.most one g in let zero = ap length f in omega arith) ∙ sym f
  by_cases (inr g) (inr h) a b =
      same_from 1 g.behind one other g.begins (subst (λ t. BeginsFrom 1 t other) (header_cancels h.behind g.behind (sym h.whole ∙ g.whole)) h.begins)
      (let le = a.most other h in let ge = b.most one g in omega arith)

  pub one_bodies : AreBodies bytes one → AreBodies bytes other → one ≡ other
  one_bodies a b = by_cases a.there b.there a b
