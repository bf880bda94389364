-- Sums over parts, where one part is given more.
use Rattle.std.proofs.Common.{◌≡◌, ℕ, suc, ◌+◌, Bool, List, length, slice_index, replicate, take, drop, ◌++◌, true, false, refl, ap, ◌∙◌, arith}
use Rattle.std.proofs.Math.Seq.{take-append_seam}
use Rattle.bl_base.specs.Sums.{sum_below}
use Rattle.bl_base.proofs.Sums.{sum_change, sum_none}
use Rattle.bl_flow.specs.declared.split.Link.{Link}
use Rattle.bl_flow.specs.Split.{link_at}
use Rattle.bl_flow.specs.Flows.{amount_if, leaves, enters}
use Rattle.bl_flow.specs.Balances.{worth, IsAdded}
use Rattle.bl_flow.proofs.Amounts.{amount_plus}
use Rattle.bl_flow.proofs.Phases.{zeros}

pub worth_added : (old new : List ℕ) (place amount : ℕ) → IsAdded old new place amount → (set : ℕ → Bool) → worth new set ≡ worth old set + amount_if (set place) amount
worth_added old new place amount is set =
    ap (λ m. sum_below m (λ p. amount_if (set p) (slice_index new p))) is.places
    ∙ sum_change (length old) (λ p. amount_if (set p) (slice_index old p)) (λ p. amount_if (set p) (slice_index new p)) place (amount_if (set place) amount) is.inside
    (ap (amount_if (set place)) is.here_ ∙ amount_plus (set place) (slice_index old place) amount) (λ p lt ne. ap (amount_if (set p)) (is.others p ne))

sum_step : (m : ℕ) (g : ℕ → ℕ) → sum_below (m + 1) g ≡ sum_below m g + g m
sum_step m g = let e : m + 1 ≡ suc m = omega arith in ap (λ i. sum_below i g) e

-- the next link's amount leaves a part, or enters one
pub leaves_more : (links : List Link) (k before : ℕ) (carried old new : List ℕ) (set : ℕ → Bool) → IsAdded old new (link_at links k).from (slice_index carried k)
    → worth old set ≡ before + leaves links k (slice_index carried) set → worth new set ≡ before + leaves links (k + 1) (slice_index carried) set
leaves_more links k before carried old new set is so_far =
    let added = worth_added old new (link_at links k).from (slice_index carried k) is set in
    let step = sum_step k (λ k. amount_if (set (link_at links k).from) (slice_index carried k)) in
    omega arith

pub enters_more : (links : List Link) (k before : ℕ) (carried old new : List ℕ) (set : ℕ → Bool) → IsAdded old new (link_at links k).to (slice_index carried k)
    → worth old set ≡ before + enters links k (slice_index carried) set → worth new set ≡ before + enters links (k + 1) (slice_index carried) set
enters_more links k before carried old new set is so_far =
    let added = worth_added old new (link_at links k).to (slice_index carried k) is set in
    let step = sum_step k (λ k. amount_if (set (link_at links k).to) (slice_index carried k)) in
    omega arith

none_if : (b : Bool) → amount_if b 0 ≡ 0
none_if true = refl
none_if false = refl

pub worth_none : (parts : ℕ) (set : ℕ → Bool) → worth (replicate parts 0) set ≡ 0
worth_none parts set =
    sum_none (length (replicate parts 0)) (λ p. amount_if (set p) (slice_index (replicate parts 0) p)) (λ p lt. ap (amount_if (set p)) (zeros parts p) ∙ none_if (set p))

-- a list that was lent whole
pub written : (len : ℕ) (new items : List ℕ) → len ≡ length new → take len (new ++ drop (length new) items) ≡ new
written len new items e = ap (λ m. take m (new ++ drop (length new) items)) e ∙ take-append_seam new (drop (length new) items)
