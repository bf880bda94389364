-- A set passes exactly where it meets every chain.
use Rattle.std.proofs.Common.{ℕ, Bool, List, [], ◌∷◌, ◌++◌, sym, subst, not}
use Rattle.std.specs.Prelude.{IsTrue}
use Rattle.std.specs.List.{All}
use Rattle.std.proofs.lemmas.Bool.{false≢true}
use Rattle.std.proofs.lemmas.List.Elements.{All-push, All-contains, All-cons, All-nil}
use Rattle.std.proofs.lemmas.List.{append_assoc, append-nil}
use Rattle.bl_base.proofs.BoolLemmas.{never_both}
use Rattle.bl_base.proofs.Members.{in_any}
use Rattle.bl_program.specs.declared.definitions.ProgramParts.{ProgramParts as Program}
use Rattle.bl_graph.specs.Chains.{Carries, IsChain}
use Rattle.bl_graph.proofs.ChainLemmas.{Protected, chain_met as typed_met}
use Rattle.bl_transient.specs.Transient.{Passes, Trans, loaded, moved, given}
use Rattle.bl_transient.proofs.LeastTypings.{passes_if}

module _ (program : Program) (set : ℕ → Bool) where
  -- a passing set meets every chain
  pub chain_met : Passes program set → (sites : List ℕ) (sink : ℕ) → IsChain program sites sink → Protected set sites
  chain_met passes sites sink chain = typed_met program set passes.0 passes.1.assigns.loads passes.1.assigns.moves passes.1.sinks sites sink chain

  -- sites without protection that carry a load to a variable
  record UnprotectedPath (x : ℕ) : Type 0 where
    sites : List ℕ
    free : All (λ s. IsTrue (not (set s))) sites
    on : (rest : List ℕ) (sink : ℕ) → Carries program x rest sink → IsChain program (sites ++ rest) sink

  way : (x : ℕ) → Trans program set x → UnprotectedPath x
  way x (loaded s _ load writes may) = record {
    sites = s ∷ [];
    free = All-cons (λ t. IsTrue (not (set t))) s [] may (All-nil (λ t. IsTrue (not (set t))));
    on = λ rest sink carries. (load, (x, writes, carries));
  }
  way x (moved s y _ reads writes may t) =
      let before = way y t in
      record {
        sites = before.sites ++ s ∷ [];
        free = All-push (λ t. IsTrue (not (set t))) before.sites s before.free may;
        on = λ rest sink carries. subst (λ sites. IsChain program sites sink) (sym (append_assoc before.sites (s ∷ []) rest)) (before.on (s ∷ rest) sink (reads, (x, writes, carries)));
      }
  way x (given _ transient) = absurd (false≢true transient)

  no_both : (sites : List ℕ) → All (λ s. IsTrue (not (set s))) sites → Protected set sites → ⊥
  no_both sites free met =
      let found = in_any (λ s. IsTrue (set s)) sites met in
      never_both (set found.0) found.2 (All-contains (λ s. IsTrue (not (set s))) sites found.0 free found.1)

  -- and a set that meets every chain passes
  pub passes_where_met : ((sites : List ℕ) (sink : ℕ) → IsChain program sites sink → Protected set sites) → Passes program set
  passes_where_met meets = passes_if program set (λ position x sink t.
      let before = way x t in
      no_both (before.sites ++ []) (subst (λ l. All (λ s. IsTrue (not (set s))) l) (sym (append-nil before.sites)) before.free) (meets (before.sites ++ []) position (before.on [] position sink)))
