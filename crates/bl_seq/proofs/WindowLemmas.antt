-- A page that is held before the others.
use Rattle.std.proofs.Common.{◌≡◌, ◌⊎◌, inl, inr, ℕ, ◌+◌, ◌-◌, ◌%◌, ◌≤◌, Bool, true, false, List, [], ◌∷◌, ◌++◌, length, set, get_or, refl, sym, ap, ◌∙◌, subst, arith}
use Rattle.std.specs.Prelude.{◌&&◌, nat_eq, if◌then◌else◌, OnErr, OnOk, Result, Ok, Err, None, slice_get, unwrap_or}
use Rattle.std.proofs.lemmas.Bool.{cases_lt, eqb-true, eqb-false, eq-eqb}
use Rattle.std.proofs.lemmas.Bool.Decides.{eqb_tells}
use Rattle.std.proofs.lemmas.List.{get_or-set_same, get_or-set_other, get_or_append_left, get_or-append_right, get_or_past}
use Rattle.std.proofs.lemmas.Option.{unwrap_or-slice_get}
use Rattle.bl_program.specs.Steps.{written}
use Rattle.bl_seq.specs.RegisterTrees.{AreSame, File, Tree, Writes, behind, cell_of, number_at, page_of, register_at}
use Rattle.bl_seq.specs.Windows.{Lacks, Sets, found, seen}
use Rattle.bl_seq.specs.declared.registers.Window.{Window}
use Rattle.bl_seq.proofs.RegisterWrites.{by_tests}

-- where both tests hold, and where one fails
both_hold : (a b : ℕ) (c d : ℕ) (new old : ℕ) → a ≡ b → c ≡ d → (if nat_eq a b && nat_eq c d then new else old) ≡ new
both_hold a b c d new old e f = rw (eq-eqb a b e, eq-eqb c d f) refl

one_fails : (a b c d : ℕ) (new old : ℕ) → (a ≡ b → c ≡ d → ⊥) → (if nat_eq a b && nat_eq c d then new else old) ≡ old
one_fails a b c d new old ne = by (nat_eq a b) (nat_eq c d) (λ e f. ne (eqb-true a b e) (eqb-true c d f))
  where
    by : (p q : Bool) → (p ≡ true → q ≡ true → ⊥) → (if p && q then new else old) ≡ old
    by true true h = absurd (h refl refl)
    by true false h = refl
    by false q h = refl

-- the two, by cases
cases_at : (a b c d : ℕ) → ((a ≡ b) × (c ≡ d)) ⊎ (a ≡ b → c ≡ d → ⊥)
cases_at a b c d = elim (eqb_tells a b) as (λ _. ((a ≡ b) × (c ≡ d)) ⊎ (a ≡ b → c ≡ d → ⊥)) [
  | inr other ↦ inr (λ e f. other.1 e)
  | inl same ↦ elim (eqb_tells c d) as (λ _. ((a ≡ b) × (c ≡ d)) ⊎ (a ≡ b → c ≡ d → ⊥)) [
    | inr other ↦ inr (λ e f. other.1 f)
    | inl also ↦ inl (same.1, also.1)
  ]
]

module _ (depth page : ℕ) (leaf : List ℕ) (d x : ℕ) where
  pub behind_in : (z : ℕ) → depth ≡ d → page ≡ page_of x → behind depth page leaf d x z ≡ get_or leaf (cell_of x) z
  behind_in z e f = both_hold depth d page (page_of x) (get_or leaf (cell_of x) z) z e f

  pub behind_out : (z : ℕ) → (depth ≡ d → page ≡ page_of x → ⊥) → behind depth page leaf d x z ≡ z
  behind_out z ne = one_fails depth d page (page_of x) (get_or leaf (cell_of x) z) z ne

  -- where the leaf has no such cell
  pub behind_past : (z : ℕ) → (depth ≡ d → page ≡ page_of x → length leaf ≤ cell_of x) → behind depth page leaf d x z ≡ z
  behind_past z lacks = elim (cases_at depth d page (page_of x)) as (λ _. behind depth page leaf d x z ≡ z) [
    | inl at ↦ behind_in z at.0 at.1 ∙ get_or_past leaf (cell_of x) z (lacks at.0 at.1)
    | inr out ↦ behind_out z out
  ]

-- ---- what is seen of a page that is held

pub found_number : (w : Window) (d x z : ℕ) → unwrap_or (found w d x) z ≡ behind w.depth w.page w.leaf d x z
found_number w d x z = by (nat_eq w.depth d) (nat_eq w.page (page_of x))
  where
    by : (p q : Bool) → unwrap_or (if p && q then slice_get w.leaf (cell_of x) else None) z ≡ (if p && q then get_or w.leaf (cell_of x) z else z)
    by true true = unwrap_or-slice_get w.leaf (cell_of x) z
    by true false = refl
    by false q = refl

-- ---- writes

-- a write to a cell that is held
pub held_set : (trees : List Tree) (old new : Window) (depth x number d v : ℕ) → Sets old new depth x number
    → register_at (seen trees new) d v ≡ written (λ d v. register_at (seen trees old) d v) depth x number d v
held_set trees old new depth x number d v sets =
    let w : Window = record old { leaf = set old.leaf (cell_of x) number } in
    ap (λ w. register_at (seen trees w) d v) sets.new_is
    ∙ by_tests (nat_eq d depth) (nat_eq v x) (register_at (seen trees w) d v) number (register_at (seen trees old) d v)
    (λ e f. hit (eqb-true d depth e) (eqb-true v x f))
    (λ e. away (λ h g. eqb-false d depth e (sym h ∙ sets.holds.depth_is)))
    (λ e f. elim (cases_at old.depth d old.page (page_of v)) as (λ _. register_at (seen trees w) d v ≡ register_at (seen trees old) d v) [
      | inr out ↦ away out
      | inl at ↦
          behind_in old.depth old.page w.leaf d v (number_at trees d v) at.0 at.1
          ∙ get_or-set_other old.leaf (cell_of x) (cell_of v) number (number_at trees d v) (λ h. eqb-false v x f (whole v x (sym at.1 ∙ sets.holds.page_is) h))
          ∙ sym (behind_in old.depth old.page old.leaf d v (number_at trees d v) at.0 at.1)
    ])
  where
    whole : (v x : ℕ) → page_of v ≡ page_of x → cell_of v ≡ cell_of x → v ≡ x
    whole v x a b = omega arith

    hit : d ≡ depth → v ≡ x → register_at (seen trees (record old { leaf = set old.leaf (cell_of x) number })) d v ≡ number
    hit e f =
        behind_in old.depth old.page (set old.leaf (cell_of x) number) d v (number_at trees d v) (sets.holds.depth_is ∙ sym e) (sets.holds.page_is ∙ ap page_of (sym f))
        ∙ ap (λ y. get_or (set old.leaf (cell_of x) number) (cell_of y) (number_at trees d v)) f
        ∙ get_or-set_same old.leaf (cell_of x) number (number_at trees d v) sets.room

    away : (old.depth ≡ d → old.page ≡ page_of v → ⊥)
        → register_at (seen trees (record old { leaf = set old.leaf (cell_of x) number })) d v ≡ register_at (seen trees old) d v
    away out = behind_out old.depth old.page (set old.leaf (cell_of x) number) d v (number_at trees d v) out ∙ sym (behind_out old.depth old.page old.leaf d v (number_at trees d v) out)

-- a write behind a window without that cell
pub far_write : (old new : List Tree) (w : Window) (depth x number : ℕ) → Lacks w depth x → Writes old new depth x number → (d v : ℕ)
    → register_at (seen new w) d v ≡ written (λ d v. register_at (seen old w) d v) depth x number d v
far_write old new w depth x number lacks writes d v =
    by_tests (nat_eq d depth) (nat_eq v x) (register_at (seen new w) d v) number (register_at (seen old w) d v)
    (λ e f. behind_past w.depth w.page w.leaf d v (number_at new d v)
    (λ h g. subst (λ y. length w.leaf ≤ cell_of y) (sym (eqb-true v x f)) (lacks.lacks (record { depth_is = h ∙ eqb-true d depth e; page_is = g ∙ ap page_of (eqb-true v x f) })))
    ∙ writes d v ∙ both_hold d depth v x number (number_at old d v) (eqb-true d depth e) (eqb-true v x f))
    (λ e. ap (λ z. behind w.depth w.page w.leaf d v z) (writes d v ∙ one_fails d depth v x number (number_at old d v) (λ h g. eqb-false d depth e h)))
    (λ e f. ap (λ z. behind w.depth w.page w.leaf d v z) (writes d v ∙ one_fails d depth v x number (number_at old d v) (λ h g. eqb-false v x f g)))

-- the same, for registers that are refused by memory alone
module _ (file : File) (old new : List Tree) (w same : Window) (depth x number : ℕ) (is : seen old w ≡ file) (at : same ≡ w) where
  pub placed : {X E : Type 0} (r : Result X E) → Lacks w depth x → OnOk r (Writes old new depth x number)
      → OnOk r ((d v : ℕ) → register_at (seen new same) d v ≡ written (λ d v. register_at file d v) depth x number d v)
  placed (Ok y) lacks writes = λ d v.
      ap (λ u. register_at (seen new u) d v) at ∙ subst (λ f. register_at (seen new w) d v ≡ written (λ d v. register_at f d v) depth x number d v) is
      (far_write old new w depth x number lacks writes d v)
  placed (Err y) lacks writes = tt

  pub kept : {X E : Type 0} (r : Result X E) → OnErr r (AreSame old new) → OnErr r ((d v : ℕ) → register_at (seen new same) d v ≡ register_at file d v)
  kept (Ok y) e = tt
  kept (Err y) e = λ d v.
      ap (λ u. register_at (seen new u) d v) at ∙ ap (λ z. behind w.depth w.page w.leaf d v z) (e d v) ∙ ap (λ f. register_at f d v) is

-- a cell more, with the number that its variable has
pub filled_more : (trees : List Tree) (w : Window) (x number d v : ℕ) → w.page ≡ page_of x → length w.leaf ≤ cell_of x → number ≡ number_at trees w.depth (x - x % 512 + length w.leaf)
    → register_at (seen trees (record w { leaf = w.leaf ++ (number ∷ []) })) d v ≡ register_at (seen trees w) d v
filled_more trees w x number d v at low is =
    let z = number_at trees d v in
    elim (cases_at w.depth d w.page (page_of v)) as (λ _. behind w.depth w.page (w.leaf ++ (number ∷ [])) d v z ≡ behind w.depth w.page w.leaf d v z) [
      | inr out ↦ behind_out w.depth w.page (w.leaf ++ (number ∷ [])) d v z out ∙ sym (behind_out w.depth w.page w.leaf d v z out)
      | inl on ↦
          behind_in w.depth w.page (w.leaf ++ (number ∷ [])) d v z on.0 on.1
          ∙ one_more w.leaf (cell_of v) (λ e. is ∙ ap (λ k. number_at trees k (x - x % 512 + length w.leaf)) on.0 ∙ ap (λ y. number_at trees d y) (named x v (length w.leaf) (sym at ∙ on.1) e))
          ∙ sym (behind_in w.depth w.page w.leaf d v z on.0 on.1)
    ]
  where
    named : (x v n : ℕ) → page_of x ≡ page_of v → cell_of v ≡ n → x - x % 512 + n ≡ v
    named x v n a b = omega arith

    one_more : (l : List ℕ) (i : ℕ) → (i ≡ length l → number ≡ number_at trees d v) → get_or (l ++ (number ∷ [])) i (number_at trees d v) ≡ get_or l i (number_at trees d v)
    one_more l i e = elim (cases_lt i (length l)) as (λ _. get_or (l ++ (number ∷ [])) i (number_at trees d v) ≡ get_or l i (number_at trees d v)) [
      | inl less ↦ get_or_append_left l (number ∷ []) (number_at trees d v) i less
      | inr more ↦
          get_or-append_right l (number ∷ []) (length l) i (number_at trees d v) refl more
          ∙ elim (eqb_tells i (length l)) as (λ _. get_or (number ∷ []) (i - length l) (number_at trees d v) ≡ number_at trees d v) [
            | inl same ↦ (let none : i - length l ≡ 0 = omega (arith, same.1) in rw none (e same.1))
            | inr other ↦ get_or_past (number ∷ []) (i - length l) (number_at trees d v) (omega (arith, more, other.1))
          ]
          ∙ sym (get_or_past l i (number_at trees d v) more)
    ]
