-- Sets of sites, kept as marks and the keys of a tree.
use Rattle.std.proofs.Common.{◌≡◌, ◌<◌, ℕ, Bool, true, false, zero, suc, List, [], ◌∷◌, refl, ap, sym, subst, arith, inl, inr, ◌∙◌}
use Rattle.std.proofs.Math.Bool.{and-false, or-true}
use Rattle.std.proofs.Math.Nat.{eq-or-lt_of_le}
use Rattle.std.proofs.lemmas.Bool.{cases_lt}
use Rattle.std.proofs.lemmas.List.{get_or_past}
use Rattle.std.specs.Prelude.{◌||◌, ◌&&◌, ◌==◌, length, get_or}
use Rattle.std.specs.Ordering.{nat_cmp, eq_by_cmp, is_eq, match_ordering}
use Rattle.std.specs.declared.cmp.Ordering.TheVariants.{Less, Equal, Greater}
use Rattle.std.specs.List.{list_any}
use Rattle.std.specs.BTreeSet.{insert_key}
use Rattle.std.specs.Cmp.{nat_cmp_total, tied_itself, unsigned_tied}
use Rattle.std.specs.FinSet.{FinSet, empty, contains, insert, union, from_list, contains-empty, contains-from_list, contains-insert, contains-retain, contains-union, same_set, nat_cmp-IsAntisymmetric}
use Rattle.bl_base.specs.Sites.{below, places}

or_same : (a b : Bool) → (a || b) ≡ (a || (a || b))
or_same true b = refl
or_same false b = refl

or_swap : (a b c : Bool) → (a || (b || c)) ≡ (b || (a || c))
or_swap true true c = refl
or_swap true false c = refl
or_swap false b c = refl

-- one passes in the list with a key put in exactly where the key does, or one in the list
any-insert_key : (q k : ℕ) (ks : List ℕ) → list_any (eq_by_cmp nat_cmp q) (insert_key nat_cmp ks k) ≡ (eq_by_cmp nat_cmp q k || list_any (eq_by_cmp nat_cmp q) ks)
any-insert_key q k [] = refl
any-insert_key q k (x ∷ xs) =
    let rest = any-insert_key q k xs in
    let any = list_any (eq_by_cmp nat_cmp q) in
    elim (nat_cmp k x) as (λ r. nat_cmp k x ≡ r → any (match_ordering r (k ∷ x ∷ xs) (x ∷ xs) (x ∷ insert_key nat_cmp xs k)) ≡ (eq_by_cmp nat_cmp q k || any (x ∷ xs))) [
      | Less ↦ λ _. refl
      | Equal ↦ λ e. subst (λ y. (eq_by_cmp nat_cmp q x || any xs) ≡ (eq_by_cmp nat_cmp q y || (eq_by_cmp nat_cmp q x || any xs))) (sym (nat_cmp-IsAntisymmetric k x e)) (or_same (eq_by_cmp nat_cmp q x) (any xs))
      | Greater ↦ λ _. ap (λ b. eq_by_cmp nat_cmp q x || b) rest ∙ or_swap (eq_by_cmp nat_cmp q x) (eq_by_cmp nat_cmp q k) (any xs)
    ] refl

-- the set of the keys, with one more put in at its place
pub from_list-insert_key : (ks : List ℕ) (k : ℕ) → from_list {R = nat_cmp} (insert_key nat_cmp ks k) ≡ insert (from_list ks) k
from_list-insert_key ks k =
    same_set nat_cmp_total nat_cmp-IsAntisymmetric _ _ (λ q.
    contains-from_list nat_cmp_total (insert_key nat_cmp ks k) q
    ∙ any-insert_key q k ks
    ∙ sym (contains-insert nat_cmp_total (from_list ks) k q ∙ ap (λ b. eq_by_cmp nat_cmp q k || b) (contains-from_list nat_cmp_total ks q)))

below-has : (n q : ℕ) → q < n → contains (below n) q ≡ true
below-has zero q less = absurd (omega arith)
below-has (suc n) q less =
    contains-insert nat_cmp_total (below n) n q
    ∙ elim (eq-or-lt_of_le {n = q} {m = n} (omega arith)) as (λ _. (eq_by_cmp nat_cmp q n || contains (below n) q) ≡ true) [
      | inl same ↦ ap (λ k. eq_by_cmp nat_cmp q k || contains (below n) q) (sym same) ∙ ap (λ r. is_eq r || contains (below n) q) (tied_itself nat_cmp_total q)
      | inr lower ↦ ap (λ b. eq_by_cmp nat_cmp q n || b) (below-has n q lower) ∙ or-true (eq_by_cmp nat_cmp q n)
    ]

-- no mark is set past the end
within : (marks : List Bool) (q : ℕ) → (contains (below (length marks)) q && get_or marks q false) ≡ get_or marks q false
within marks q =
    elim (cases_lt q (length marks)) as (λ _. (contains (below (length marks)) q && get_or marks q false) ≡ get_or marks q false) [
      | inl less ↦ ap (λ b. b && get_or marks q false) (below-has (length marks) q less)
      | inr past ↦
          let none = get_or_past marks q false past in
          ap (λ b. contains (below (length marks)) q && b) none ∙ and-false _ ∙ sym none
    ]

contains-places : (marks : List Bool) (q : ℕ) → contains (places marks) q ≡ get_or marks q false
contains-places marks q =
    contains-retain (below (length marks)) (λ place. get_or marks place false) q (λ x e. ap (λ place. get_or marks place false) (sym (nat_cmp-IsAntisymmetric q x e)))
    ∙ within marks q

-- the set of the marks and the keys
abbrev pub kept : List Bool → List ℕ → FinSet nat_cmp
kept marks keys = union (places marks) (from_list keys)

pub contains-kept : (marks : List Bool) (keys : List ℕ) (q : ℕ) → contains (kept marks keys) q ≡ (get_or marks q false || list_any (eq_by_cmp nat_cmp q) keys)
contains-kept marks keys q = contains-union nat_cmp_total _ _ q ∙ (λ i. contains-places marks q i || contains-from_list nat_cmp_total keys q i)

pub kept-none : kept [] [] ≡ empty
kept-none = same_set nat_cmp_total nat_cmp-IsAntisymmetric _ _ (λ q. contains-kept [] [] q ∙ sym (contains-empty nat_cmp q))

or_group : (a b c : Bool) → ((a || b) || c) ≡ (a || (b || c))
or_group true b c = refl
or_group false b c = refl

-- one more mark
pub kept-marked : (marks after : List Bool) (keys : List ℕ) (k : ℕ) → ((q : ℕ) → get_or after q false ≡ ((q == k) || get_or marks q false))
    → kept after keys ≡ insert (kept marks keys) k
kept-marked marks after keys k more =
    same_set nat_cmp_total nat_cmp-IsAntisymmetric _ _ (λ q.
    let any = list_any (eq_by_cmp nat_cmp q) keys in
    contains-kept after keys q
    ∙ ap (λ b. b || any) (more q)
    ∙ or_group (q == k) (get_or marks q false) any
    ∙ sym (contains-insert nat_cmp_total _ k q ∙ (λ i. unsigned_tied q k i || contains-kept marks keys q i)))

-- one more key
pub kept-put : (marks : List Bool) (keys : List ℕ) (k : ℕ) → kept marks (insert_key nat_cmp keys k) ≡ insert (kept marks keys) k
kept-put marks keys k =
    same_set nat_cmp_total nat_cmp-IsAntisymmetric _ _ (λ q.
    contains-kept marks (insert_key nat_cmp keys k) q
    ∙ ap (λ b. get_or marks q false || b) (any-insert_key q k keys)
    ∙ or_swap (get_or marks q false) (eq_by_cmp nat_cmp q k) (list_any (eq_by_cmp nat_cmp q) keys)
    ∙ sym (contains-insert nat_cmp_total _ k q ∙ ap (λ b. eq_by_cmp nat_cmp q k || b) (contains-kept marks keys q)))
