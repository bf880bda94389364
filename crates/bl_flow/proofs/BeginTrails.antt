-- Trails that are tested link by link.
use Rattle.std.proofs.Common.{◌≡◌, ℕ, ◌+◌, ◌<◌, List, length, slice_index, take, sym, ap, subst, arith, inl, inr}
use Rattle.std.proofs.lemmas.List.{take_more}
use Rattle.std.proofs.lemmas.Bool.{cases_eq}
use Rattle.bl_flow.specs.declared.split.Link.{Link}
use Rattle.bl_flow.specs.Split.{link_at}
use Rattle.bl_flow.specs.Flows.{LeadsBack}
use Rattle.bl_flow.proofs.BlockingFlows.{leads_more}

pub back_more : (links : List Link) (trail : List ℕ) (i at end : ℕ) → i < length trail → LeadsBack links (take i trail) at end → (link_at links (slice_index trail i)).to ≡ at
    → LeadsBack links (take (i + 1) trail) (link_at links (slice_index trail i)).from end
back_more links trail i at end lt back to =
    subst (λ w. LeadsBack links w (link_at links (slice_index trail i)).from end) (sym (take_more trail i 0 lt)) (leads_more links (take i trail) at end (slice_index trail i) back to)

pub within_more : (trail : List ℕ) (i count : ℕ) → ((place : ℕ) → place < i → slice_index trail place < count) → slice_index trail i < count → (place : ℕ) → place < i + 1 → slice_index trail place < count
within_more trail i count old here_ place lt =
    elim (cases_eq place i) as (λ _. slice_index trail place < count) [
      | inl e ↦ let same = ap (slice_index trail) e in omega arith
      | inr differs ↦ old place (omega arith)
    ]
