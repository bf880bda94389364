-- Each protect that a certificate shows has a reason.
use Rattle.std.proofs.Common.{◌≡◌, ℕ, ◌⊎◌, Bool, true, false, cond, List, [], ◌∷◌, Some, refl, sym, ap, subst, ◌∙◌, arith, inl, inr, nat_eq}
use Rattle.std.specs.Prelude.{IsTrue}
use Rattle.std.specs.List.{Contains, count_by, find}
use Rattle.std.proofs.lemmas.Bool.{cases_Bool, eqb-true, eq-eqb, false≢true}
use Rattle.std.proofs.lemmas.List.Elements.{All-contains}
use Rattle.bl_base.proofs.Members.{first_in, in_cases, later_in, listed as in_listed, lists, none_in}
use Rattle.bl_program.specs.Sites.{is_protected}
use Rattle.bl_program.specs.declared.definitions.ProgramParts.{ProgramParts as Program}
use Rattle.bl_graph.specs.Certificates.{Certifies, IsFlowPath, sites_of}
use Rattle.bl_graph.specs.Ranges.{AreInRange}
use Rattle.bl_graph.specs.declared.certificate.Certificate.{Certificate}
use Rattle.bl_graph.proofs.PathCounts.{count_cons, once, some_counted}
use Rattle.bl_graph.proofs.ProtectPaths.{reason}
use Rattle.bl_report.specs.Reports.{HasReason, takes}
use Rattle.bl_report.proofs.ProtectedSites.{protected_is_site}

-- ---- the first that passes a test

module _ {X : Type 0} (test : X → Bool) where
  -- where one of a list passes, there is a first one; it is in the list, and passes
  pub found : (xs : List X) (x : X) → Contains xs x → test x ≡ true → (y : X) × (find test xs ≡ Some y) × Contains xs y × (test y ≡ true)
  found [] x h passes = absurd (none_in x h)
  found (z ∷ xs) x h passes =
      elim (cases_Bool (test z)) as (λ _. (y : X) × (find test (z ∷ xs) ≡ Some y) × Contains (z ∷ xs) y × (test y ≡ true)) [
        | inl e ↦ (z, ap (λ b. cond b (Some z) (find test xs)) e, first_in z xs, e)
        | inr e ↦
            let rest = found xs x (behind e (in_cases z x xs h)) passes in
            (rest.0, ap (λ b. cond b (Some z) (find test xs)) e ∙ rest.1, later_in z rest.0 xs rest.2, rest.3)
      ]
    where
      behind : test z ≡ false → (z ≡ x) ⊎ Contains xs x → Contains xs x
      behind e (inl same) = absurd (false≢true (sym e ∙ (ap test same ∙ passes)))
      behind e (inr rest) = rest

-- where one number is counted, all that are counted are that one
one_counted : (p : ℕ → Bool) (xs : List ℕ) (x y : ℕ) → count_by p xs ≡ 1 → Contains xs x → p x ≡ true → Contains xs y → p y ≡ true → y ≡ x
one_counted p [] x y one at_x is at_y also = absurd (none_in x at_x)
one_counted p (z ∷ xs) x y one at_x is at_y also =
    by (cases_Bool (p z)) (in_cases z x xs at_x) (in_cases z y xs at_y) (λ rest a b. one_counted p xs x y rest a is b also)
  where
    by : (p z ≡ true) ⊎ (p z ≡ false) → (z ≡ x) ⊎ Contains xs x → (z ≡ y) ⊎ Contains xs y → (count_by p xs ≡ 1 → Contains xs x → Contains xs y → y ≡ x) → y ≡ x
    by here (inl a) (inl b) again = sym b ∙ a
    by (inl here) (inl a) (inr b) again =
        let sum = count_cons p z xs in
        let first = ap once here in
        let more = some_counted p xs y b also in
        absurd (omega arith)
    by (inl here) (inr a) b again =
        let sum = count_cons p z xs in
        let first = ap once here in
        let more = some_counted p xs x a is in
        absurd (omega arith)
    by (inr here) (inl a) b again = absurd (false≢true (sym here ∙ (ap p a ∙ is)))
    by (inr here) (inr a) (inl b) again = absurd (false≢true (sym here ∙ (ap p b ∙ also)))
    by (inr here) (inr a) (inr b) again =
        let sum = count_cons p z xs in
        let first = ap once here in
        again (omega arith) a b

-- a certified program's protects have reasons
module _ (program : Program) (certificate : Certificate) (ranges : AreInRange program) (certified : Certifies program certificate) where
  pub has_reason : (s : ℕ) → IsTrue (is_protected program s) → HasReason program certificate s
  has_reason s h =
      let paths = certificate.paths in
      let some = reason program ranges (is_protected program) (protected_is_site program) certificate certified s h in
      let test = takes s in
      let first = found (takes s) paths some.0 some.1 (lists (λ t. nat_eq t s) (sites_of some.0) s some.2 (eq-eqb s s refl)) in
      let place = in_listed (λ t. nat_eq t s) (sites_of first.0) first.3 in
      let here : Contains (sites_of first.0) s = subst (Contains (sites_of first.0)) (eqb-true place.0 s place.2) place.1 in
      let is = All-contains (IsFlowPath program (is_protected program)) paths first.0 certified.paths first.2 in
      record {
        path = first.0;
        first = first.1;
        takes = here;
        is_path = is;
        alone = λ other there also. one_counted (is_protected program) (sites_of first.0) s other is.once here h there also;
      }
