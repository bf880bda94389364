-- Sums of sizes, demands and weights.
use Rattle.std.proofs.Common.{◌≡◌, ◌↔◌, inl, inr, ℕ, zero, suc, ◌+◌, ◌-◌, ◌^◌, ◌<◌, ◌≤◌, List, [], ◌∷◌, length, get_or, min, Option, Some, None, slice_get, Bool, true, false, IsTrue, refl, sym, ap, ◌∙◌, subst, arith}
use Rattle.std.specs.Prelude.{find, IsSome, option_and_then, option_map, ◌==◌, if◌then◌else◌, unwrap_or}
use Rattle.std.specs.List.{AllPairs}
use Rattle.std.proofs.Math.Nat.{pow-le-pow_right}
use Rattle.std.proofs.Common.{eq-eqb}
use Rattle.std.proofs.lemmas.Bool.{eqb-true, cases_lt, false≢true}
use Rattle.std.proofs.lemmas.Option.{none-some, get_or_from_slice_get, slice_get-get_or, slice_get_within, slice_get_read, same_Some}
use Rattle.bl_base.proofs.Lists.{all_get}
use Rattle.bl_base.proofs.Sums.{sum_le, sum_term}
use Rattle.bl_base.specs.Sums.{sum_below}
use Rattle.bl_base.proofs.OptionLemmas.{some_value}
use Rattle.bl_program.specs.Layout.{sum_before, command_at}
use Rattle.bl_program.specs.Rules.{Precedes, IsWeight, IsWellFormed}
use Rattle.bl_program.specs.Sites.{listed, mark_of, mark_at, site_weight, IsSite}
use Rattle.bl_program.specs.declared.command.Command.{Command}
use Rattle.bl_program.specs.declared.command.Mark.{Mark}
use Rattle.bl_program.specs.declared.definitions.ProgramParts.{ProgramParts as Program}
use Rattle.bl_program.specs.declared.definitions.Demand.{Demand}
use Rattle.bl_program.specs.declared.definitions.Demand.TheVariants.{Result, Global}
use Rattle.bl_program.specs.declared.definitions.SiteWeight.{SiteWeight}
use Rattle.bl_program.proofs.Layouts.{sum_more, sum_up}

pub precedes_trans : (x y z : Demand) → Precedes x y → Precedes y z → Precedes x z
precedes_trans (Result f i) (Result g j) (Result h k) a b = elim a as (λ _. Precedes (Result f i) (Result h k)) [
  | inl less ↦ elim b as (λ _. Precedes (Result f i) (Result h k)) [ inl more ↦ inl (omega arith) | inr same ↦ inl (omega (arith, same.0)) ]
  | inr same ↦ elim b as (λ _. Precedes (Result f i) (Result h k)) [ inl more ↦ inl (omega (arith, same.0)) | inr also ↦ inr (same.0 ∙ also.0, omega (arith, same.1, also.1)) ]
]
precedes_trans (Result f i) (Result g j) (Global z) a b = tt
precedes_trans (Result f i) (Global y) (Result h k) a b = absurd b
precedes_trans (Result f i) (Global y) (Global z) a b = tt
precedes_trans (Global x) (Result g j) z a b = absurd a
precedes_trans (Global x) (Global y) (Result h k) a b = absurd b
precedes_trans (Global x) (Global y) (Global z) a b = omega arith

-- ---- sums that stay below a bound

module _ {X : Type 0} (f : X → ℕ) where
  -- one item more
  pub total_next : (xs : List X) (i total : ℕ) (x : X) → i < length xs → x ≡ get_or xs i x → total ≡ sum_before f xs i → total + f x ≡ sum_before f xs (i + 1)
  total_next xs i total x lt is e =
      let more = sum_more f xs i x (slice_get_read xs (length xs) i x refl lt is) in
      let next : i + 1 ≡ suc i = omega arith in
      rw next (omega arith)

  -- the whole is not less
  pub total_whole : (xs : List X) (i total : ℕ) (x : X) → i < length xs → x ≡ get_or xs i x → total ≡ sum_before f xs i → total + f x ≤ sum_before f xs (length xs)
  total_whole xs i total x lt is e =
      let more = sum_more f xs i x (slice_get_read xs (length xs) i x refl lt is) in
      let up = sum_up f xs (suc i) (length xs) (omega arith) in
      omega arith

-- ---- listed weights

-- two that rise
pub rises_get : {X : Type 0} (R : X → X → Type 0) (xs : List X) (i j : ℕ) (a b : X) → AllPairs R xs → i < j → slice_get xs i ≡ Some a → slice_get xs j ≡ Some b → R a b
rises_get R xs i j a b pairs lt first second =
    subst (R a) (get_or_from_slice_get xs j b a second) (subst (λ x. R x (get_or xs j a)) (get_or_from_slice_get xs i a a first) (pairs i j a lt (slice_get_within xs j b second)))

abbrev weight_by : Option SiteWeight → Option ℕ
weight_by found = option_map (λ (entry : SiteWeight). entry.weight) found

-- the one of a position, where none before it is
pub listed_is : (weights : List SiteWeight) (k s : ℕ) (entry : SiteWeight) → slice_get weights k ≡ Some entry → entry.at.0 ≡ s → ((j : ℕ) (other : SiteWeight) → j < k → slice_get weights j ≡ Some other → other.at.0 ≡ s → ⊥)
    → Some entry.weight ≡ listed weights s
listed_is [] k s entry stands is none = absurd (none-some entry stands)
listed_is (w ∷ weights) zero s entry stands is none =
    let same = same_Some w entry stands in
    let passes : (w.at.0 == s) ≡ true = eq-eqb w.at.0 s (ap (λ (e : SiteWeight). e.at.0) same ∙ is) in
    sym (ap (λ b. weight_by (if b then Some w else find (λ (e : SiteWeight). e.at.0 == s) weights)) passes ∙ ap (λ (e : SiteWeight). Some e.weight) same)
listed_is (w ∷ weights) (suc k) s entry stands is none = by (w.at.0 == s) refl (listed_is weights k s entry stands is (λ j other lt. none (suc j) other (omega arith)))
  where
    by : (b : Bool) → (w.at.0 == s) ≡ b → Some entry.weight ≡ listed weights s → Some entry.weight ≡ weight_by (if b then Some w else find (λ (e : SiteWeight). e.at.0 == s) weights)
    by true e rest = absurd (none 0 w (omega arith) refl (eqb-true w.at.0 s e))
    by false e rest = rest

-- none
pub listed_none : (weights : List SiteWeight) (s : ℕ) → ((j : ℕ) (other : SiteWeight) → slice_get weights j ≡ Some other → other.at.0 ≡ s → ⊥) → None ≡ listed weights s
listed_none [] s none = refl
listed_none (w ∷ weights) s none = by (w.at.0 == s) refl (listed_none weights s (λ j other. none (suc j) other))
  where
    by : (b : Bool) → (w.at.0 == s) ≡ b → None ≡ listed weights s → None ≡ weight_by (if b then Some w else find (λ (e : SiteWeight). e.at.0 == s) weights)
    by true e rest = absurd (none 0 w refl (eqb-true w.at.0 s e))
    by false e rest = rest

abbrev Rises : SiteWeight → SiteWeight → Type 0
Rises entry next = entry.at.0 < next.at.0

module _ (weights : List SiteWeight) (m s : ℕ) (d : SiteWeight) (pairs : AllPairs Rises weights) (lt : m < length weights) where
  at_m : slice_get weights m ≡ Some (get_or weights m d)
  at_m = slice_get-get_or weights m d lt

  -- the one in the middle
  pub found_middle : (get_or weights m d).at.0 ≡ s → Some (get_or weights m d).weight ≡ listed weights s
  found_middle is = listed_is weights m s (get_or weights m d) at_m is (λ j other less stands same.
      let below = rises_get Rises weights j m other (get_or weights m d) pairs less stands at_m in omega arith)

  -- those up to it are before the position
  pub before_more : (get_or weights m d).at.0 < s → (k : ℕ) (entry : SiteWeight) → k < m + 1 → slice_get weights k ≡ Some entry → entry.at.0 < s
  before_more is k entry less stands = elim (cases_lt k m) as (λ _. entry.at.0 < s) [
    | inl under ↦ let below = rises_get Rises weights k m entry (get_or weights m d) pairs under stands at_m in omega arith
    | inr over ↦
        let same : k ≡ m = omega arith in
        let here : get_or weights m d ≡ entry = same_Some (get_or weights m d) entry (sym at_m ∙ ap (slice_get weights) (sym same) ∙ stands) in
        subst (λ (e : SiteWeight). e.at.0 < s) here is
  ]

  -- those from it on are behind the position
  pub behind_more : s ≤ (get_or weights m d).at.0 → ((get_or weights m d).at.0 ≡ s → ⊥) → (k : ℕ) (entry : SiteWeight) → m ≤ k → slice_get weights k ≡ Some entry → s < entry.at.0
  behind_more over_or apart k entry le stands = let is : s < (get_or weights m d).at.0 = omega arith in elim (cases_lt m k) as (λ _. s < entry.at.0) [
    | inl under ↦ let above = rises_get Rises weights m k (get_or weights m d) entry pairs under at_m stands in omega arith
    | inr over ↦
        let same : k ≡ m = omega arith in
        let here : get_or weights m d ≡ entry = same_Some (get_or weights m d) entry (sym at_m ∙ ap (slice_get weights) (sym same) ∙ stands) in
        subst (λ (e : SiteWeight). s < e.at.0) here is
  ]

-- none is the position's
pub none_between : (weights : List SiteWeight) (low high s : ℕ) → high ≤ low → ((k : ℕ) (entry : SiteWeight) → k < low → slice_get weights k ≡ Some entry → entry.at.0 < s)
    → ((k : ℕ) (entry : SiteWeight) → high ≤ k → slice_get weights k ≡ Some entry → s < entry.at.0) → None ≡ listed weights s
none_between weights low high s le before behind = listed_none weights s (λ j other stands same. elim (cases_lt j low) as (λ _. ⊥) [
  | inl under ↦ let lt = before j other under stands in omega arith
  | inr over ↦ let lt = behind j other (omega arith) stands in omega arith
])

-- ---- sums of weights that are cut off

module _ (weight : ℕ → ℕ) (limit : ℕ) where
  abbrev Cut : ℕ → ℕ
  Cut s = min (weight s) limit

  -- a sum below the limit has no term that was cut off
  pub total_small : (n : ℕ) → sum_below n Cut < limit → sum_below n weight ≡ sum_below n Cut
  total_small zero lt = refl
  total_small (suc n) lt = let rest = total_small n (omega arith) in omega arith

  sum_rises : (d n : ℕ) → sum_below n weight ≤ sum_below (d + n) weight
  sum_rises zero n = let same : 0 + n ≡ n = omega arith in rw same (omega arith)
  sum_rises (suc d) n = let rest = sum_rises d n in let same : suc d + n ≡ suc (d + n) = omega arith in rw same (omega arith)

  cut_less : (n : ℕ) → sum_below n Cut ≤ sum_below n weight
  cut_less zero = omega arith
  cut_less (suc n) = let rest = cut_less n in omega arith

  pub total_large : (i n : ℕ) → i ≤ n → limit ≤ sum_below i Cut → limit ≤ sum_below n weight
  total_large i n le large =
      let cut = cut_less i in
      let same : (n - i) + i ≡ n = omega arith in
      let up : sum_below i weight ≤ sum_below n weight = subst (λ (k : ℕ). sum_below i weight ≤ sum_below k weight) same (sum_rises (n - i) i) in
      omega arith

  pub total_false : (i n total here : ℕ) → total ≡ sum_below i Cut → here ≡ Cut i → i < n → limit ≤ total + here → IsTrue false ↔ (sum_below n weight < limit)
  total_false i n total here is one lt large =
      let all : limit ≤ sum_below (suc i) Cut = omega arith in
      let whole = total_large (suc i) n (omega arith) all in
      (λ t. absurd (false≢true t), λ small. absurd (omega arith))

  pub total_true : (i n total : ℕ) → total ≡ sum_below i Cut → total < limit → i ≡ n → IsTrue true ↔ (sum_below n weight < limit)
  total_true i n total is lt end =
      let same = total_small i (omega arith) in
      (λ _. subst (λ (k : ℕ). sum_below k weight < limit) end (omega arith), λ _. refl)

-- ---- the sum over a set

module _ (weight : ℕ → ℕ) (limit n : ℕ) (set : ℕ → Bool) (whole : sum_below n weight < limit) where
  abbrev In : ℕ → ℕ
  In s = if set s then weight s else 0

  in_less : (s : ℕ) → In s ≤ weight s
  in_less s = by (set s)
    where
      by : (b : Bool) → (if b then weight s else 0) ≤ weight s
      by true = omega arith
      by false = omega arith

  -- one position more
  pub set_next : (i total here : ℕ) → i < n → total ≡ sum_below i In → here ≡ min (In i) limit → (total + here ≡ sum_below (i + 1) In) × (total + here < limit)
  set_next i total here lt is one =
      let under = sum_le n In weight (λ k less. in_less k) in
      let gap : (n - suc i) + suc i ≡ n = omega arith in
      let up : sum_below (suc i) In ≤ sum_below n In = subst (λ (k : ℕ). sum_below (suc i) In ≤ sum_below k In) gap (sum_rises In limit (n - suc i) (suc i)) in
      let next : i + 1 ≡ suc i = omega arith in
      let both : (total + here ≡ sum_below (suc i) In) × (total + here < limit) = (omega arith, omega arith) in
      (both.0 ∙ ap (λ (k : ℕ). sum_below k In) (sym next), both.1)

-- ---- the weight of one site

-- a command stands at a site
within_site : (weights : Option ℕ) (o : Option Command) → IsSome (option_map (λ (mark : Mark). unwrap_or weights (10 ^ mark.depth)) (option_and_then mark_of o)) → (c : Command) × (o ≡ Some c)
within_site weights None h = absurd (false≢true h)
within_site weights (Some c) h = (c, refl)

-- a weight that is listed
listed_in : (weights : List SiteWeight) (s w : ℕ) → listed weights s ≡ Some w → (k : ℕ) × (entry : SiteWeight) × (slice_get weights k ≡ Some entry) × (entry.weight ≡ w)
listed_in [] s w e = absurd (none-some w e)
listed_in (x ∷ weights) s w e = by (x.at.0 == s) e (listed_in weights s w)
  where
    by : (b : Bool) → weight_by (if b then Some x else find (λ (e : SiteWeight). e.at.0 == s) weights) ≡ Some w
        → (listed weights s ≡ Some w → (k : ℕ) × (entry : SiteWeight) × (slice_get weights k ≡ Some entry) × (entry.weight ≡ w))
        → (k : ℕ) × (entry : SiteWeight) × (slice_get (x ∷ weights) k ≡ Some entry) × (entry.weight ≡ w)
    by true e rest = (0, x, refl, same_Some x.weight w e)
    by false e rest = let got = rest e in (suc got.0, got.1, got.2, got.3)

pow_positive : (n : ℕ) → 1 ≤ 10 ^ n
pow_positive n = pow-le-pow_right {n = 10} (omega arith) {i = 0} {j = n} (omega arith)

-- it is at least 1
weight_positive : (program : Program) → IsWellFormed program → (o : Option Mark) (s w : ℕ) → option_map (λ (mark : Mark). unwrap_or (listed program.weights s) (10 ^ mark.depth)) o ≡ Some w → 1 ≤ w
weight_positive program well None s w e = absurd (none-some w e)
weight_positive program well (Some mark) s w e = by (listed program.weights s) refl (same_Some _ w e)
  where
    by : (o : Option ℕ) → listed program.weights s ≡ o → unwrap_or o (10 ^ mark.depth) ≡ w → 1 ≤ w
    by None e is = let positive : 1 ≤ 10 ^ mark.depth = pow_positive mark.depth in omega arith
    by (Some x) e is =
        let got = listed_in program.weights s x e in
        let one = (all_get (IsWeight program) program.weights got.0 got.1 well.rule9.weights got.2).positive in
        omega (arith, got.3)

pub site_exact : (program parts : Program) (s r : ℕ) → parts ≡ program → IsWellFormed program → IsSite program s → r ≡ min (unwrap_or (site_weight parts s) 0) (2 ^ 63) → (site_weight program s ≡ Some r) × (1 ≤ r)
site_exact program parts s r same well site is =
    let got = some_value (site_weight program s) site in
    let command = within_site (listed program.weights s) (command_at program s) site in
    let lt = slice_get_within program.commands s command.0 command.1 in
    let term = sum_term (length program.commands) (λ k. unwrap_or (site_weight program k) 0) s lt in
    let value : unwrap_or (site_weight program s) 0 ≡ got.0 = ap (λ o. unwrap_or o 0) got.1 in
    let here : r ≡ min (unwrap_or (site_weight program s) 0) (2 ^ 63) = subst (λ (p : Program). r ≡ min (unwrap_or (site_weight p s) 0) (2 ^ 63)) same is in
    let exact : r ≡ got.0 = below (2 ^ 63) _ 0 _ r got.0 here value term well.rule9.total in
    (got.1 ∙ ap Some (sym exact), subst (λ (k : ℕ). 1 ≤ k) (sym exact) (weight_positive program well (mark_at program s) s got.0 got.1))
  where
    below : (limit w sum all r x : ℕ) → r ≡ min w limit → w ≡ x → w ≤ all → all < limit → r ≡ x
    below limit w sum all r x here value term total = omega arith

-- the weight of a set, one position more
pub weight_next : (program parts : Program) (set : ℕ → Bool) (i total here : ℕ) → parts ≡ program → IsWellFormed program → i < length parts.commands
    → total ≡ sum_below i (λ s. if set s then unwrap_or (site_weight program s) 0 else 0)
    → here ≡ min (if set i then unwrap_or (site_weight parts i) 0 else 0) (2 ^ 63)
    → (total + here ≡ sum_below (i + 1) (λ s. if set s then unwrap_or (site_weight program s) 0 else 0)) × (total + here < 2 ^ 63)
weight_next program parts set i total here same well lt is one =
    set_next (λ s. unwrap_or (site_weight program s) 0) (2 ^ 63) (length program.commands) set well.rule9.total i total here
    (subst (λ (p : Program). i < length p.commands) same lt) is
    (subst (λ (p : Program). here ≡ min (if set i then unwrap_or (site_weight p i) 0 else 0) (2 ^ 63)) same one)
