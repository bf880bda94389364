-- First paths by sites, one path and one site after another.
use Rattle.std.proofs.Common.{◌≡◌, ℕ, zero, suc, ◌+◌, ◌<◌, Bool, true, false, cond, List, [], ◌∷◌, ◌++◌, length, take, get_or, replicate, Option, Some, None, refl, sym, ap, subst, ◌∙◌, arith, nat_eq}
use Rattle.std.specs.Prelude.{◌||◌, slice_get}
use Rattle.std.specs.Option.{option_or}
use Rattle.std.specs.List.{find, list_any}
use Rattle.std.proofs.lemmas.List.{take_more}
use Rattle.std.proofs.lemmas.List.Folds.{find-append}
use Rattle.std.proofs.lemmas.Option.{slice_get-get_or}
use Rattle.bl_graph.specs.Certificates.{sites_of}
use Rattle.bl_graph.specs.declared.certificate.FlowPath.{FlowPath}
use Rattle.bl_report.specs.SiteTables.{IsFirst, also_noted, noted}
use Rattle.bl_report.specs.Reports.{first_path, takes}

pub none_noted : (n s : ℕ) → noted (replicate n None) s ≡ None
none_noted zero s = refl
none_noted (suc n) zero = refl
none_noted (suc n) (suc s) = none_noted n s

or_last : (a b : Bool) → (a || (b || false)) ≡ (a || b)
or_last a true = refl
or_last a false = refl

any_more : (p : ℕ → Bool) (xs : List ℕ) (i d : ℕ) → i < length xs → list_any p (take (i + 1) xs) ≡ (list_any p (take i xs) || p (get_or xs i d))
any_more p [] i d lt = absurd (omega (arith, lt))
any_more p (x ∷ xs) zero d lt = or_last false (p x)
any_more p (x ∷ xs) (suc i) d lt =
    let next : suc i + 1 ≡ suc (i + 1) = omega arith in
    ap (λ k. list_any p (take k (x ∷ xs))) next ∙ ap (λ b. p x || b) (any_more p xs i d (omega arith)) ∙ by (p x) (list_any p (take i xs)) (p (get_or xs i d))
  where
    by : (a b c : Bool) → (a || (b || c)) ≡ ((a || b) || c)
    by true b c = refl
    by false b c = refl

-- one more site of a path
module _ (old now new : List (Option ℕ)) (sites : List ℕ) (i index u : ℕ) (lt : i < length sites) (there : get_or sites i 0 ≡ u)
    (same : length now ≡ length old) where
  pub noted_more : ((s : ℕ) → s < length old → noted now s ≡ also_noted index s (take i sites) (noted old s))
      → ((s : ℕ) → s < length now → noted new s ≡ also_noted index s (u ∷ []) (noted now s))
      → (s : ℕ) → s < length old → noted new s ≡ also_noted index s (take (i + 1) sites) (noted old s)
  noted_more so_far one s below =
      one s (omega (arith, below, same)) ∙ ap (also_noted index s (u ∷ [])) (so_far s below)
      ∙ by (noted old s) (list_any (λ t. nat_eq t s) (take i sites)) (nat_eq u s)
      ∙ ap (λ b. option_or (noted old s) (cond b (Some index) None)) (sym more)
    where
      more : list_any (λ t. nat_eq t s) (take (i + 1) sites) ≡ (list_any (λ t. nat_eq t s) (take i sites) || nat_eq u s)
      more = any_more (λ t. nat_eq t s) sites i 0 lt ∙ ap (λ v. list_any (λ t. nat_eq t s) (take i sites) || nat_eq v s) there

      by : (o : Option ℕ) (a b : Bool)
          → option_or (option_or o (cond a (Some index) None)) (cond (b || false) (Some index) None) ≡ option_or o (cond (a || b) (Some index) None)
      by None true b = refl
      by None false true = refl
      by None false false = refl
      by (Some k) a b = refl

-- one more path
module _ (paths : List FlowPath) (i : ℕ) (path : FlowPath) (there : slice_get paths i ≡ Some path) (whole : take (i + 1) paths ≡ take i paths ++ path ∷ []) (s : ℕ) where
  pub first_more : (o : Option ℕ) → IsFirst paths (take i paths) s o → IsFirst paths (take (i + 1) paths) s (also_noted i s (sites_of path) o)
  first_more (Some k) h = (h.0, h.1, all ∙ ap (λ o. option_or o (cond (takes s path) (Some path) None)) h.2)
    where
      all : first_path (take (i + 1) paths) s ≡ option_or (first_path (take i paths) s) (cond (takes s path) (Some path) None)
      all = ap (find (takes s)) whole ∙ find-append (takes s) (take i paths) (path ∷ [])
  first_more None h = by (takes s path) (all ∙ ap (λ o. option_or o (cond (takes s path) (Some path) None)) h)
    where
      all : first_path (take (i + 1) paths) s ≡ option_or (first_path (take i paths) s) (cond (takes s path) (Some path) None)
      all = ap (find (takes s)) whole ∙ find-append (takes s) (take i paths) (path ∷ [])

      by : (b : Bool) → first_path (take (i + 1) paths) s ≡ cond b (Some path) None → IsFirst paths (take (i + 1) paths) s (cond b (Some i) None)
      by true e = (path, there, e)
      by false e = e

-- the path at an index
pub first_next : (paths : List FlowPath) (i : ℕ) (d : FlowPath) → i < length paths → (s : ℕ) (before after : Option ℕ)
    → after ≡ also_noted i s (sites_of (get_or paths i d)) before → IsFirst paths (take i paths) s before → IsFirst paths (take (i + 1) paths) s after
first_next paths i d lt s before after is h =
    subst (IsFirst paths (take (i + 1) paths) s) (sym is)
    (first_more paths i (get_or paths i d) (slice_get-get_or paths i d lt) (take_more paths i d lt) s before h)
