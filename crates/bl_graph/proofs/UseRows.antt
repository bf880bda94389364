-- Lists of uses grow by a row for each position.
use Rattle.std.proofs.Common.{◌≡◌, ℕ, zero, suc, ◌+◌, ◌<◌, ◌≤◌, List, [], ◌∷◌, ◌++◌, length, map, take, get_or, min, Some, None, Option, refl, sym, ap, subst, ◌∙◌, arith, ◌⊎◌, inl, inr}
use Rattle.std.specs.Prelude.{◌↔◌}
use Rattle.std.specs.List.{AllPairs, Contains}
use Rattle.std.proofs.lemmas.Bool.{cases_lt}
use Rattle.std.proofs.lemmas.List.{append-nil, append_assoc, take_more}
use Rattle.std.proofs.lemmas.List.Elements.{Contains-append_left, Contains-append_right, Contains-append_cases, Contains-get_or, Contains-push, Contains-push_cases}
use Rattle.std.proofs.lemmas.List.Kept.{AllPairs-cons}
use Rattle.std.proofs.lemmas.List.Quantifiers.{all_pairs_push}
use Rattle.bl_base.specs.declared.number.Pos.{Pos}
use Rattle.bl_base.specs.declared.number.Var.{Var as Variable}
use Rattle.bl_base.proofs.Members.{first_in, later_in, in_cases, none_in, in_map, from_map}
use Rattle.bl_program.specs.Sites.{Names, Among}
use Rattle.bl_program.specs.declared.command.Operand.{Operand}
use Rattle.bl_program.specs.declared.command.Operand.TheVariants.{Var, Const}
use Rattle.bl_graph.specs.Graphs.{use_of, Precedes, AreUses}
use Rattle.bl_graph.specs.UseLists.{AreBelow, ArePlacesBelow, AddsRow, IsLeastFrom, lower_of}
use Rattle.bl_graph.specs.declared.facts.Use.{Use}
use Rattle.bl_graph.proofs.ChainLemmas.{all_from}

-- one more item behind a rising list
pub push_rises : {X : Type 0} (R : X → X → Type 0) (xs : List X) (y : X) → AllPairs R xs → ((x : X) → Contains xs x → R x y) → AllPairs R (xs ++ y ∷ [])
push_rises R xs y rise before = all_pairs_push R xs y rise (λ k d lt. before (get_or xs k d) (Contains-get_or xs k d lt))

-- a rising list behind another one
pub append_rises : {X : Type 0} (R : X → X → Type 0) (xs ys : List X) → AllPairs R xs → AllPairs R ys → ((x y : X) → Contains xs x → Contains ys y → R x y) → AllPairs R (xs ++ ys)
append_rises {X = X} R [] ys rise more between = more
append_rises {X = X} R (x ∷ xs) ys rise more between =
    AllPairs-cons R x (xs ++ ys)
    (all_from (R x) (xs ++ ys) (λ y h. elim (Contains-append_cases xs ys y h) as (λ _. R x y) [
      | inl here ↦ head y here
      | inr there ↦ between x y (first_in x xs) there
    ]))
    (append_rises R xs ys (λ i j d lt low. rise (suc i) (suc j) d (omega arith) (omega arith)) more (λ a b h g. between a b (later_in x a xs h) g))
  where
    head : (y : X) → Contains xs y → R x y
    head y here = subst (R x) here.2 (rise zero (suc here.0) y (omega arith) (let lt = here.1 in omega arith))

-- the pairs of one position rise where the variables do
mapped_rises : (position : ℕ) (row : List ℕ) → AllPairs (λ x y. x < y) row → AllPairs Precedes (map (use_of position) row)
mapped_rises position [] rise = λ i j d lt low. absurd (omega arith)
mapped_rises position (x ∷ row) rise =
    AllPairs-cons Precedes (use_of position x) (map (use_of position) row)
    (all_from (Precedes (use_of position x)) (map (use_of position) row) (λ u h.
    let found = from_map (use_of position) row u h in
    subst (Precedes (use_of position x)) found.2 (inr (refl, subst (λ y. x < y) found.1.2 (rise zero (suc found.1.0) found.0 (omega arith) (let lt = found.1.1 in omega arith))))))
    (mapped_rises position row (λ i j d lt low. rise (suc i) (suc j) d (omega arith) (omega arith)))

module _ (Relates : ℕ → ℕ → Type 0) where
  -- where nothing stands below a bound
  pub nothing_below : (bound : ℕ) → ((position x : ℕ) → position < bound → Relates position x → ⊥) → AreBelow Relates bound []
  nothing_below bound none = record {
    each = λ position x. ((λ h. absurd (none_in (use_of position x) h)), (λ h. absurd (none position x h.0 h.1)));
    rise = λ i j d lt low. absurd (omega arith);
  }

  -- one position more
  pub next_row : (bound next : ℕ) (old new : List Use) (Has : ℕ → Type 0) → next ≡ bound + 1 → ((x : ℕ) → Has x ↔ Relates bound x) → AreBelow Relates bound old → AddsRow Has bound old new
      → AreBelow Relates next new
  next_row bound next old new Has step same below adds = subst (AreBelow Relates next) (sym adds.is) (record {
    each = λ position x. (
      (λ h. elim (Contains-append_cases old (map (use_of bound) adds.row) (use_of position x) h) as (λ _. (position < next) × Relates position x) [
        | inl before ↦ let found = (below.each position x).0 before in (let lt = found.0 in omega arith, found.1)
        | inr here ↦
            let found = from_map (use_of bound) adds.row (use_of position x) here in
            let at : bound ≡ position = ap (λ (u : Use). u.at.0) found.2 in
            let var : found.0 ≡ x = ap (λ (u : Use). u.var.0) found.2 in
            (omega arith, subst (λ p. Relates p x) at (subst (Relates bound) var ((same found.0).0 ((adds.each found.0).0 found.1))))
      ]),
      (λ h. elim (cases_lt position bound) as (λ _. Contains (old ++ map (use_of bound) adds.row) (use_of position x)) [
        | inl less ↦ Contains-append_left old (map (use_of bound) adds.row) (use_of position x) ((below.each position x).1 (less, h.1))
        | inr more ↦
            let lt = h.0 in
            let at : bound ≡ position = omega arith in
            let has = (adds.each x).1 ((same x).1 (subst (λ p. Relates p x) (sym at) h.1)) in
            Contains-append_right old (map (use_of bound) adds.row) (use_of position x)
            (subst (λ p. Contains (map (use_of bound) adds.row) (use_of p x)) at (in_map (use_of bound) adds.row x has))
      ]),
    );
    rise = append_rises Precedes old (map (use_of bound) adds.row) below.rise (mapped_rises bound adds.row adds.rise) (λ u v before here.
        let found = from_map (use_of bound) adds.row v here in
        let low = ((below.each u.at.0 u.var.0).0 before).0 in
        subst (Precedes u) found.2 (inl low));
  })

  -- all positions
  pub all_below : (bound : ℕ) (uses : List Use) → ((position x : ℕ) → Relates position x → position < bound) → AreBelow Relates bound uses → AreUses Relates uses
  all_below bound uses low below = record {
    each = λ position x. ((λ h. ((below.each position x).0 h).1), (λ h. (below.each position x).1 (low position x h, h)));
    rise = below.rise;
  }

-- ---- a row on its way: the variables below a bound

pub row_next : (Has : ℕ → Type 0) (position bound least : ℕ) (old mid new : List Use) → AddsRow (λ x. Has x × (x < bound)) position old mid
    → Has least × (bound ≤ least) × ((x : ℕ) → Has x → bound ≤ x → least ≤ x)
    → new ≡ mid ++ use_of position least ∷ [] → (next : ℕ) → next ≡ least + 1 → AddsRow (λ x. Has x × (x < next)) position old new
row_next Has position bound least old mid new adds found e next step = record {
  row = adds.row ++ least ∷ [];
  is = e ∙ (ap (λ l. l ++ use_of position least ∷ []) adds.is ∙ (append_assoc old (map (use_of position) adds.row) (use_of position least ∷ []) ∙ ap (λ l. old ++ l) (pushed adds.row)));
  each = λ x. (
    (λ h. elim (Contains-push_cases adds.row least x h) as (λ _. Has x × (x < next)) [
      | inl before ↦ let had = (adds.each x).0 before in (had.0, let lt = had.1 in let low = found.1 in omega arith)
      | inr same ↦ (subst Has same found.0, omega arith)
    ]),
    (λ h. elim (cases_lt x bound) as (λ _. Contains (adds.row ++ least ∷ []) x) [
      | inl less ↦ Contains-append_left adds.row (least ∷ []) x ((adds.each x).1 (h.0, less))
      | inr more ↦
          let low = found.2 x h.0 more in
          let lt = h.1 in
          let same : least ≡ x = omega arith in
          subst (Contains (adds.row ++ least ∷ [])) same (Contains-push adds.row least)
    ]),
  );
  rise = push_rises (λ x y. x < y) adds.row least adds.rise (λ x before. let lt = ((adds.each x).0 before).1 in let low = found.1 in omega arith);
}
  where
    pushed : (row : List ℕ) → map (use_of position) row ++ use_of position least ∷ [] ≡ map (use_of position) (row ++ least ∷ [])
    pushed [] = refl
    pushed (x ∷ row) = ap (λ l. use_of position x ∷ l) (pushed row)

-- a row of one
pub row_one : (Has : ℕ → Type 0) (position x : ℕ) (old new : List Use) → Has x → ((y : ℕ) → Has y → x ≡ y) → new ≡ old ++ use_of position x ∷ [] → AddsRow Has position old new
row_one Has position x old new has only e = record {
  row = x ∷ [];
  is = e;
  each = λ y. (
    (λ h. elim (in_cases x y [] h) as (λ _. Has y) [ inl same ↦ subst Has same has | inr rest ↦ absurd (none_in y rest) ]),
    (λ h. subst (Contains (x ∷ [])) (only y h) (first_in x [])),
  );
  rise = λ i j d lt low. absurd (omega arith);
}

-- an empty one
pub row_empty : (Has : ℕ → Type 0) (position : ℕ) (old : List Use) → ((x : ℕ) → Has x → ⊥) → AddsRow Has position old old
row_empty Has position old none = record {
  row = [];
  is = sym (append-nil old);
  each = λ x. ((λ h. absurd (none_in x h)), (λ h. absurd (none x h)));
  rise = λ i j d lt low. absurd (omega arith);
}

-- the variables among equal operands, and among none
pub row_among : (operands others : List Operand) (position : ℕ) (old new : List Use) → others ≡ operands → AddsRow (Among operands) position old new → AddsRow (Among others) position old new
row_among operands others position old new same adds = subst (λ l. AddsRow (Among l) position old new) (sym same) adds

pub row_none_among : (operands : List Operand) (position : ℕ) (old : List Use) → operands ≡ [] → AddsRow (Among operands) position old old
row_none_among operands position old none = row_among [] operands position old old none (row_empty (Among []) position old (λ x h. h))

-- the variable that is the only operand
pub row_var : (operand : Operand) (var : Variable) (position : ℕ) (old new : List Use) → operand ≡ Var var → new ≡ old ++ use_of position var.0 ∷ [] → AddsRow (Among (operand ∷ [])) position old new
row_var operand var position old new is e =
    row_among (Var var ∷ []) (operand ∷ []) position old new (ap (λ o. o ∷ []) is)
    (row_one (Among (Var var ∷ [])) position var.0 old new (inl refl) (λ y h. elim h as (λ _. var.0 ≡ y) [ inl same ↦ same | inr none ↦ absurd none ]) e)

pub row_const : (operand : Operand) (n position : ℕ) (old : List Use) → operand ≡ Const n → AddsRow (Among (operand ∷ [])) position old old
row_const operand n position old is =
    row_among (Const n ∷ []) (operand ∷ []) position old old (ap (λ o. o ∷ []) is)
    (row_empty (Among (Const n ∷ [])) position old (λ x h. elim h as (λ _. ⊥) [ inl other ↦ other | inr none ↦ none ]))

-- ---- the lesser of two least numbers

pub least_of_two : (P Q : ℕ → Type 0) (bound : ℕ) (one other : Option ℕ) → IsLeastFrom P bound one → IsLeastFrom Q bound other → IsLeastFrom (λ x. P x ⊎ Q x) bound (lower_of one other)
least_of_two P Q bound None None p q = λ x h. elim h as (λ _. x < bound) [ inl a ↦ p x a | inr b ↦ q x b ]
least_of_two P Q bound None (Some y) p q = (inr q.0, q.1, λ x h le. elim h as (λ _. y ≤ x) [ inl a ↦ absurd (let lt = p x a in omega arith) | inr b ↦ q.2 x b le ])
least_of_two P Q bound (Some y) None p q = (inl p.0, p.1, λ x h le. elim h as (λ _. y ≤ x) [ inl a ↦ p.2 x a le | inr b ↦ absurd (let lt = q x b in omega arith) ])
least_of_two P Q bound (Some y) (Some z) p q =
    elim (cases_lt y z) as (λ _. IsLeastFrom (λ x. P x ⊎ Q x) bound (Some (min y z))) [
      | inl less ↦
          let same : y ≡ min y z = omega arith in
          subst (λ m. IsLeastFrom (λ x. P x ⊎ Q x) bound (Some m)) same
          (inl p.0, p.1, λ x h le. elim h as (λ _. y ≤ x) [ inl a ↦ p.2 x a le | inr b ↦ let low = q.2 x b le in omega arith ])
      | inr more ↦
          let same : z ≡ min y z = omega arith in
          subst (λ m. IsLeastFrom (λ x. P x ⊎ Q x) bound (Some m)) same
          (inr q.0, q.1, λ x h le. elim h as (λ _. z ≤ x) [ inl a ↦ let low = p.2 x a le in omega arith | inr b ↦ q.2 x b le ])
    ]

-- ---- positions

module _ (Has : ℕ → Type 0) where
  pub place_yes : (bound next : ℕ) (old new : List Pos) → next ≡ bound + 1 → Has bound → new ≡ old ++ record { 0 = bound } ∷ [] → ArePlacesBelow Has bound old → ArePlacesBelow Has next new
  place_yes bound next old new step has e below = subst (ArePlacesBelow Has next) (sym e) (record {
    each = λ s. (
      (λ h. elim (Contains-push_cases old (record { 0 = bound }) (record { 0 = s }) h) as (λ _. (s < next) × Has s) [
        | inl before ↦ let found = (below.each s).0 before in (let lt = found.0 in omega arith, found.1)
        | inr same ↦ let at : bound ≡ s = ap (λ (p : Pos). p.0) same in (omega arith, subst Has at has)
      ]),
      (λ h. elim (cases_lt s bound) as (λ _. Contains (old ++ record { 0 = bound } ∷ []) (record { 0 = s })) [
        | inl less ↦ Contains-append_left old (record { 0 = bound } ∷ []) (record { 0 = s }) ((below.each s).1 (less, h.1))
        | inr more ↦
            let lt = h.0 in
            let same : bound ≡ s = omega arith in
            subst (λ p. Contains (old ++ record { 0 = bound } ∷ []) (record { 0 = p })) same (Contains-push old (record { 0 = bound }))
      ]),
    );
    rise = push_rises (λ one other. one.0 < other.0) old (record { 0 = bound }) below.rise (λ p before. ((below.each p.0).0 before).0);
  })

  pub place_no : (bound next : ℕ) (places : List Pos) → next ≡ bound + 1 → (Has bound → ⊥) → ArePlacesBelow Has bound places → ArePlacesBelow Has next places
  place_no bound next places step none below = record {
    each = λ s. (
      (λ h. let found = (below.each s).0 h in (let lt = found.0 in omega arith, found.1)),
      (λ h. elim (cases_lt s bound) as (λ _. Contains places (record { 0 = s })) [
        | inl less ↦ (below.each s).1 (less, h.1)
        | inr more ↦ let lt = h.0 in let same : s ≡ bound = omega arith in absurd (none (subst Has same h.1))
      ]),
    );
    rise = below.rise;
  }

-- ---- operands

among_end : (operands : List Operand) (operand : Operand) (x : ℕ) → Among (operands ++ operand ∷ []) x ↔ (Among operands x ⊎ Names operand x)
among_end [] operand x = ((λ h. elim h as (λ _. ⊥ ⊎ Names operand x) [ inl a ↦ inr a | inr b ↦ absurd b ]), (λ h. elim h as (λ _. Names operand x ⊎ ⊥) [ inl a ↦ absurd a | inr b ↦ inl b ]))
among_end (first ∷ operands) operand x =
    let rest = among_end operands operand x in (
      (λ h. elim h as (λ _. (Names first x ⊎ Among operands x) ⊎ Names operand x) [
        | inl a ↦ inl (inl a)
        | inr b ↦ elim (rest.0 b) as (λ _. (Names first x ⊎ Among operands x) ⊎ Names operand x) [ inl m ↦ inl (inr m) | inr n ↦ inr n ]
      ]),
      (λ h. elim h as (λ _. Names first x ⊎ Among (operands ++ operand ∷ []) x) [
        | inl a ↦ elim a as (λ _. Names first x ⊎ Among (operands ++ operand ∷ []) x) [ inl n ↦ inl n | inr m ↦ inr (rest.1 (inl m)) ]
        | inr n ↦ inr (rest.1 (inr n))
      ]),
    )

least_same : (P Q : ℕ → Type 0) (bound : ℕ) (o : Option ℕ) → ((x : ℕ) → P x ↔ Q x) → IsLeastFrom P bound o → IsLeastFrom Q bound o
least_same P Q bound None same least = λ x h. least x ((same x).1 h)
least_same P Q bound (Some y) same least = ((same y).0 least.0, least.1, λ x h le. least.2 x ((same x).1 h) le)

-- one operand more
pub least_more : (operands : List Operand) (i bound : ℕ) (d : Operand) (one here next : Option ℕ) → i < length operands → IsLeastFrom (Among (take i operands)) bound one
    → IsLeastFrom (Names (get_or operands i d)) bound here → next ≡ lower_of one here → IsLeastFrom (Among (take (i + 1) operands)) bound next
least_more operands i bound d one here next lt so_far item e =
    let both = least_of_two (Among (take i operands)) (Names (get_or operands i d)) bound one here so_far item in
    subst (λ l. IsLeastFrom (Among l) bound next) (sym (take_more operands i d lt))
    (subst (IsLeastFrom (Among (take i operands ++ get_or operands i d ∷ [])) bound) (sym e)
    (least_same (λ x. Among (take i operands) x ⊎ Names (get_or operands i d) x) (Among (take i operands ++ get_or operands i d ∷ [])) bound (lower_of one here)
    (λ x. let ends = among_end (take i operands) (get_or operands i d) x in (ends.1, ends.0)) both))
