-- Registers after writes.
use Rattle.std.proofs.Common.{◌≡◌, ◌≢◌, inl, inr, ℕ, zero, suc, ◌+◌, ◌-◌, ◌/◌, ◌%◌, ◌<◌, ◌≤◌, Bool, true, false, List, [], ◌∷◌, ◌++◌, length, drop, replicate, set, get_or, refl, sym, ap, ◌∙◌, subst, arith}
use Rattle.std.specs.Prelude.{◌&&◌, nat_eq, if◌then◌else◌, OnErr, OnOk, Result, Ok, Err, Some, unwrap_or}
use Rattle.std.specs.Map.{lookup}
use Rattle.std.specs.Ordering.{MatchOrdering, is_eq, nat_cmp}
use Rattle.std.specs.declared.cmp.Ordering.{Ordering}
use Rattle.std.specs.declared.cmp.Ordering.TheVariants.{Less, Equal, Greater}
use Rattle.std.proofs.Math.Path.{fun_ext}
use Rattle.std.proofs.lemmas.Bool.{cases_lt, eqb-true, eqb-false, eq-eqb}
use Rattle.std.proofs.lemmas.Bool.Decides.{eqb_tells}
use Rattle.std.proofs.lemmas.Cmp.{ranked}
use Rattle.std.proofs.lemmas.List.{get_or-set_same, get_or-set_other, get_or_append_left, get_or-append_right, get_or_default, get_or-replicate, get_or_past, length-replicate, set-get_or}
use Rattle.bl_program.specs.Steps.{written}
use Rattle.bl_seq.specs.RegisterTrees.{AreSame, Deepens, IsSameTree, Puts, SetsBranch, SetsPages, SetsTree, Tree, Writes, bare, cell_of, filled, in_tree, number_at, page_in, page_of, put_page, stray_at}

-- ---- lists with blanks behind their ends, and with another item

module _ {A : Type 0} (blank : A) where
  of_blanks : (n k : ℕ) → get_or (replicate n blank) k blank ≡ blank
  of_blanks n k = elim (cases_lt k n) as (λ _. get_or (replicate n blank) k blank ≡ blank) [
    | inl less ↦ get_or-replicate n k blank blank less
    | inr more ↦ get_or_past (replicate n blank) k blank (simp length-replicate more)
  ]

  pub with_blanks : (list : List A) (n j : ℕ) → get_or (list ++ replicate n blank) j blank ≡ get_or list j blank
  with_blanks list n j = elim (cases_lt j (length list)) as (λ _. get_or (list ++ replicate n blank) j blank ≡ get_or list j blank) [
    | inl less ↦ get_or_append_left list (replicate n blank) blank j less
    | inr more ↦ get_or-append_right list (replicate n blank) (length list) j blank refl more ∙ of_blanks n (j - length list) ∙ sym (get_or_past list j blank more)
  ]

  -- an item that looks like the one before it
  pub look_same : {X : Type 0} (look : A → X) (list : List A) (i : ℕ) (item : A) → i < length list → look item ≡ look (get_or list i blank)
      → (j : ℕ) → look (get_or (set list i item) j blank) ≡ look (get_or list j blank)
  look_same look list i item room e j = elim (eqb_tells j i) as (λ _. look (get_or (set list i item) j blank) ≡ look (get_or list j blank)) [
    | inl here ↦ ap (λ k. look (get_or (set list i item) k blank)) here.1 ∙ ap look (get_or-set_same list i item blank room) ∙ e ∙ ap (λ k. look (get_or list k blank)) (sym here.1)
    | inr other ↦ ap look (get_or-set_other list i j item blank other.1)
  ]

-- ---- pages

page_whole : (p page : ℕ) → p / 64 ≡ page / 64 → p % 64 ≡ page % 64 → p ≡ page
page_whole p page a b = omega arith

variable_whole : (v x : ℕ) → page_of v ≡ page_of x → cell_of v ≡ cell_of x → v ≡ x
variable_whole v x a b = omega arith

module _ (branches : List (List (List ℕ))) (page : ℕ) (leaf : List ℕ) (high : page / 64 < length branches) where
  pub page_put : page % 64 < length (get_or branches (page / 64) []) → (p : ℕ) → p ≡ page → page_in (put_page branches page leaf) p ≡ leaf
  page_put low p e =
      let branch = get_or branches (page / 64) [] in
      ap (λ k. page_in (put_page branches page leaf) k) e
      ∙ ap (λ b. get_or b (page % 64) []) (get_or-set_same branches (page / 64) (set branch (page % 64) leaf) [] high)
      ∙ get_or-set_same branch (page % 64) leaf [] low

  pub page_apart : (p : ℕ) → p ≢ page → page_in (put_page branches page leaf) p ≡ page_in branches p
  page_apart p ne =
      let branch = get_or branches (page / 64) [] in
      elim (eqb_tells (p / 64) (page / 64)) as (λ _. page_in (put_page branches page leaf) p ≡ page_in branches p) [
        | inr other ↦ ap (λ b. get_or b (p % 64) []) (get_or-set_other branches (page / 64) (p / 64) (set branch (page % 64) leaf) [] other.1)
        | inl same ↦
            ap (λ k. get_or (get_or (put_page branches page leaf) k []) (p % 64) []) same.1
            ∙ ap (λ b. get_or b (p % 64) []) (get_or-set_same branches (page / 64) (set branch (page % 64) leaf) [] high)
            ∙ get_or-set_other branch (page % 64) (p % 64) leaf [] (λ e. ne (page_whole p page same.1 e))
            ∙ ap (λ k. get_or (get_or branches k []) (p % 64) []) (sym same.1)
      ]

-- ---- a variable written at a depth

pub chosen_yes : (v x new old : ℕ) → v ≡ x → (if nat_eq v x then new else old) ≡ new
chosen_yes v x new old e = rw (eq-eqb v x e)

pub chosen_no : (v x new old : ℕ) → v ≢ x → (if nat_eq v x then new else old) ≡ old
chosen_no v x new old ne = elim (eqb_tells v x) as (λ _. (if nat_eq v x then new else old) ≡ old) [ inl same ↦ absurd (ne same.1) | inr other ↦ rw other.0 ]

-- a cell that a variable has
pub set_cell : (branches : List (List (List ℕ))) (strays : List (ℕ × ℕ)) (x number : ℕ) → page_of x / 64 < length branches
    → page_of x % 64 < length (get_or branches (page_of x / 64) []) → cell_of x < length (page_in branches (page_of x))
    → Puts (record { branches = branches; strays = strays }) (record { branches = put_page branches (page_of x) (set (page_in branches (page_of x)) (cell_of x) number); strays = strays }) x number
set_cell branches strays x number high low room v =
    let leaf = page_in branches (page_of x) in
    let new = set leaf (cell_of x) number in
    let old_number = get_or (page_in branches (page_of v)) (cell_of v) (stray_at strays v) in
    let new_number = get_or (page_in (put_page branches (page_of x) new) (page_of v)) (cell_of v) (stray_at strays v) in
    elim (eqb_tells v x) as (λ _. new_number ≡ (if nat_eq v x then number else old_number)) [
      | inl same ↦
          ap (λ l. get_or l (cell_of v) (stray_at strays v)) (page_put branches (page_of x) new high low (page_of v) (ap page_of same.1))
          ∙ ap (λ k. get_or new k (stray_at strays v)) (ap cell_of same.1) ∙ get_or-set_same leaf (cell_of x) number (stray_at strays v) room
          ∙ sym (chosen_yes v x number old_number same.1)
      | inr other ↦
          elim (eqb_tells (page_of v) (page_of x)) as (λ _. new_number ≡ old_number) [
            | inr apart ↦ ap (λ l. get_or l (cell_of v) (stray_at strays v)) (page_apart branches (page_of x) new high (page_of v) apart.1)
            | inl also ↦
                ap (λ l. get_or l (cell_of v) (stray_at strays v)) (page_put branches (page_of x) new high low (page_of v) also.1)
                ∙ get_or-set_other leaf (cell_of x) (cell_of v) number (stray_at strays v) (λ e. other.1 (variable_whole v x also.1 e))
                ∙ ap (λ p. get_or (page_in branches p) (cell_of v) (stray_at strays v)) (sym also.1)
          ]
          ∙ sym (chosen_no v x number old_number other.1)
    ]

-- a variable written in its branch, if it has a cell there
pub set_tree : (r : Bool) (tree : Tree) (branches : List (List (List ℕ))) (strays : List (ℕ × ℕ)) (x number : ℕ) (before after : List (List ℕ))
    → (let it : Tree = record { branches = branches; strays = strays } in it) ≡ tree → page_of x / 64 < length branches
    → before ≡ get_or branches (page_of x / 64) before → SetsBranch r before after (page_of x % 64) (cell_of x) number
    → SetsTree r tree (record { branches = set branches (page_of x / 64) after; strays = strays }) x number
set_tree r tree branches strays x number before after e high is sets =
    subst (λ t. SetsTree r t (record { branches = set branches (page_of x / 64) after; strays = strays }) x number) e
    (by r (subst (λ b. SetsBranch r b after (page_of x % 64) (cell_of x) number) (is ∙ get_or_default branches (page_of x / 64) before [] high) sets))
  where
    low : (leaves : List (List ℕ)) (l i : ℕ) → i < length (get_or leaves l []) → l < length leaves
    low leaves l i lt = elim (cases_lt l (length leaves)) as (λ _. l < length leaves) [
      | inl less ↦ less
      | inr more ↦ absurd (let none = subst (λ leaf. i < length leaf) (get_or_past leaves l [] more) lt in omega arith)
    ]

    by : (r : Bool) → SetsBranch r (get_or branches (page_of x / 64) []) after (page_of x % 64) (cell_of x) number
        → SetsTree r (record { branches = branches; strays = strays }) (record { branches = set branches (page_of x / 64) after; strays = strays }) x number
    by true h =
        subst (λ b. Puts (record { branches = branches; strays = strays }) (record { branches = set branches (page_of x / 64) b; strays = strays }) x number) (sym h.1)
        (set_cell branches strays x number high (low (get_or branches (page_of x / 64) []) (page_of x % 64) (cell_of x) h.0) h.0)
    by false h = (
      h.0,
      ap (λ b. record { branches = set branches (page_of x / 64) b; strays = strays }) h.1
          ∙ ap (λ b. record { branches = b; strays = strays }) (set-get_or branches (page_of x / 64) []),
    )

cmp_apart : (x v : ℕ) → x ≢ v → is_eq (nat_cmp x v) ≡ false
cmp_apart x v ne = by (nat_cmp x v) (ranked x v (nat_cmp x v) refl)
  where
    by : (r : Ordering) → MatchOrdering r (x < v) (x ≡ v) (v < x) → is_eq r ≡ false
    by Less h = refl
    by Equal h = absurd (ne h)
    by Greater h = refl

-- a stray of a variable that has no cell
pub put_stray : (tree : Tree) (branches : List (List (List ℕ))) (old new : List (ℕ × ℕ)) (x number : ℕ) → (let it : Tree = record { branches = branches; strays = old } in it) ≡ tree
    → length (page_in tree.branches (page_of x)) ≤ cell_of x → lookup (λ k. is_eq (nat_cmp x k)) new ≡ Some number
    → ((q : ℕ) → is_eq (nat_cmp x q) ≡ false → lookup (λ k. is_eq (nat_cmp q k)) new ≡ lookup (λ k. is_eq (nat_cmp q k)) old)
    → Puts tree (record { branches = branches; strays = new }) x number
put_stray tree branches old new x number e lacks here there =
    subst (λ t. length (page_in t.branches (page_of x)) ≤ cell_of x → Puts t (record { branches = branches; strays = new }) x number) e
    (λ room v.
    elim (eqb_tells v x) as (λ _. number_of new v ≡ (if nat_eq v x then number else number_of old v)) [
      | inl same ↦
          ap (λ y. number_of new y) same.1 ∙ get_or_past (page_in branches (page_of x)) (cell_of x) (stray_at new x) room ∙ ap (λ o. unwrap_or o 0) here
          ∙ sym (chosen_yes v x number (number_of old v) same.1)
      | inr other ↦
          ap (λ o. get_or (page_in branches (page_of v)) (cell_of v) (unwrap_or o 0)) (there v (cmp_apart x v (λ e. other.1 (sym e))))
          ∙ sym (chosen_no v x number (number_of old v) other.1)
    ]) lacks
  where
    number_of : List (ℕ × ℕ) → ℕ → ℕ
    number_of strays y = get_or (page_in branches (page_of y)) (cell_of y) (stray_at strays y)

-- a number is another one where both tests hold, and else what it was
pub by_tests : (b c : Bool) (new value old : ℕ) → (b ≡ true → c ≡ true → new ≡ value) → (b ≡ false → new ≡ old) → (b ≡ true → c ≡ false → new ≡ old)
    → new ≡ (if b && c then value else old)
by_tests true true new value old both first second = both refl refl
by_tests true false new value old both first second = second refl refl
by_tests false c new value old both first second = first refl

pub write_tree : (trees : List Tree) (tree : Tree) (depth x number : ℕ) → depth < length trees → Puts (get_or trees depth bare) tree x number → Writes trees (set trees depth tree) depth x number
write_tree trees tree depth x number room puts d v =
    let there : nat_eq d depth ≡ true → number_at (set trees depth tree) d v ≡ in_tree tree v =
    λ e. ap (λ k. in_tree (get_or (set trees depth tree) k bare) v) (eqb-true d depth e) ∙ ap (λ t. in_tree t v) (get_or-set_same trees depth tree bare room) in
    by_tests (nat_eq d depth) (nat_eq v x) (number_at (set trees depth tree) d v) number (number_at trees d v)
    (λ e f. there e ∙ puts v ∙ chosen_yes v x number (in_tree (get_or trees depth bare) v) (eqb-true v x f))
    (λ e. ap (λ t. in_tree t v) (get_or-set_other trees depth d tree bare (eqb-false d depth e)))
    (λ e f. there e ∙ puts v ∙ chosen_no v x number (in_tree (get_or trees depth bare) v) (eqb-false v x f) ∙ ap (λ k. in_tree (get_or trees k bare) v) (sym (eqb-true d depth e)))

-- a tree among those of all depths, in which a variable is written, if it has a cell there
pub set_pages : (r : Bool) (old trees : List Tree) (depth x number : ℕ) (before after : Tree) → trees ≡ old → depth < length trees → before ≡ get_or trees depth before
    → SetsTree r before after x number → SetsPages r old (set trees depth after) depth x number
set_pages r old trees depth x number before after e room is sets =
    subst (λ ts. SetsPages r ts (set trees depth after) depth x number) e
    (by r (subst (λ t. SetsTree r t after x number) (is ∙ get_or_default trees depth before bare room) sets))
  where
    by : (r : Bool) → SetsTree r (get_or trees depth bare) after x number → SetsPages r trees (set trees depth after) depth x number
    by true h = write_tree trees after depth x number room h
    by false h = ap (λ t. set trees depth t) h.1 ∙ set-get_or trees depth bare

-- a tree in which a variable is written, or none, where there may be more depths than before
module _ (old trees : List Tree) (depth x number : ℕ) (before after : Tree) (deep : Deepens old trees) (room : depth < length trees) (is : before ≡ get_or trees depth before) where
  was : before ≡ get_or trees depth bare
  was = is ∙ get_or_default trees depth before bare room

  pub write_pages : {X E : Type 0} (r : Result X E) → OnOk r (Puts before after x number) → OnOk r (Writes old (set trees depth after) depth x number)
  write_pages (Ok y) puts = λ d v.
      write_tree trees after depth x number room (subst (λ t. Puts t after x number) was puts) d v
      ∙ ap (λ z. if nat_eq d depth && nat_eq v x then number else z) (ap (λ t. in_tree t v) (deep d))
  write_pages (Err y) puts = tt

  pub keep_pages : {X E : Type 0} (r : Result X E) → OnErr r (IsSameTree before after) → OnErr r (AreSame old (set trees depth after))
  keep_pages (Ok y) same = tt
  keep_pages (Err y) same = λ d v.
      look_same bare (λ t. in_tree t v) trees depth after room (same v ∙ ap (λ t. in_tree t v) was) d ∙ ap (λ t. in_tree t v) (deep d)

-- ---- variables in a row

module _ (registers : ℕ → ℕ → ℕ) (depth x number : ℕ) where
  pub written_here : (v : ℕ) → v ≡ x → written registers depth x number depth v ≡ number
  written_here v e = rw (eq-eqb depth depth refl, eq-eqb v x e)

  pub written_apart : (d v : ℕ) → d ≢ depth → written registers depth x number d v ≡ registers d v
  written_apart d v ne = elim (eqb_tells d depth) as (λ _. written registers depth x number d v ≡ registers d v) [
    | inl same ↦ absurd (ne same.1)
    | inr other ↦ rw other.0
  ]

  pub written_beside : (d v : ℕ) → v ≢ x → written registers depth x number d v ≡ registers d v
  written_beside d v ne = by (nat_eq d depth) (nat_eq v x) (λ e. ne (eqb-true v x e))
    where
      by : (b c : Bool) → (c ≡ true → ⊥) → (if b && c then number else registers d v) ≡ registers d v
      by true true h = absurd (h refl)
      by true false h = refl
      by false c h = refl

pub fill_before : (registers : ℕ → ℕ → ℕ) (depth from : ℕ) (numbers : List ℕ) (d v : ℕ) → v < from → filled registers depth from numbers d v ≡ registers d v
fill_before registers depth from [] d v lt = refl
fill_before registers depth from (number ∷ numbers) d v lt =
    fill_before (written registers depth from number) depth (suc from) numbers d v (omega arith) ∙ written_beside registers depth from number d v (λ e. omega arith)

pub fill_apart : (registers : ℕ → ℕ → ℕ) (depth from : ℕ) (numbers : List ℕ) (d v : ℕ) → d ≢ depth → filled registers depth from numbers d v ≡ registers d v
fill_apart registers depth from [] d v ne = refl
fill_apart registers depth from (number ∷ numbers) d v ne =
    fill_apart (written registers depth from number) depth (suc from) numbers d v ne ∙ written_apart registers depth from number d v ne

pub fill_behind : (registers : ℕ → ℕ → ℕ) (depth from : ℕ) (numbers : List ℕ) (v : ℕ) → from ≤ v → ((w : ℕ) → from ≤ w → registers depth w ≡ 0)
    → filled registers depth from numbers depth v ≡ get_or numbers (v - from) 0
fill_behind registers depth from [] v le zeros = zeros v le
fill_behind registers depth from (number ∷ numbers) v le zeros =
    elim (eqb_tells v from) as (λ _. filled (written registers depth from number) depth (suc from) numbers depth v ≡ get_or (number ∷ numbers) (v - from) 0) [
      | inl same ↦
          fill_before (written registers depth from number) depth (suc from) numbers depth v (omega (arith, same.1)) ∙ written_here registers depth from number v same.1
          ∙ (let none : v - from ≡ 0 = omega (arith, same.1) in rw none)
      | inr other ↦
          let behind : suc from ≤ v = above v from le other.1 in
          fill_behind (written registers depth from number) depth (suc from) numbers v behind
          (λ w low. written_beside registers depth from number depth w (λ e. omega arith) ∙ zeros w (omega arith))
          ∙ (let next : v - from ≡ suc (v - suc from) = omega arith in rw next)
    ]
  where
    above : (v from : ℕ) → from ≤ v → v ≢ from → suc from ≤ v
    above v from le ne = elim (cases_lt from v) as (λ _. suc from ≤ v) [ inl less ↦ omega arith | inr more ↦ absurd (ne (omega arith)) ]

-- one variable more of those in a row
pub fill_next : (old new : ℕ → ℕ → ℕ) (depth from i : ℕ) (numbers : List ℕ) (number : ℕ) → i < length numbers → number ≡ get_or numbers i 0
    → ((d v : ℕ) → new d v ≡ written old depth (from + i) number d v)
    → filled new depth (from + (i + 1)) (drop (i + 1) numbers) ≡ filled old depth (from + i) (drop i numbers)
fill_next old new depth from i numbers number lt is e =
    let place : from + (i + 1) ≡ suc (from + i) = omega arith in
    let split = drop_more numbers i lt in
    rw (place, split) (ap (λ r. filled r depth (suc (from + i)) (drop (i + 1) numbers))
    (fun_ext (λ d. fun_ext (λ v. e d v)) ∙ ap (λ n. written old depth (from + i) n) is))
  where
    drop_more : (xs : List ℕ) (k : ℕ) → k < length xs → drop k xs ≡ get_or xs k 0 ∷ drop (k + 1) xs
    drop_more [] k lt = absurd (omega arith)
    drop_more (x ∷ xs) zero lt = refl
    drop_more (x ∷ xs) (suc k) lt = let next : suc k + 1 ≡ suc (k + 1) = omega arith in rw next (drop_more xs k (omega arith))
