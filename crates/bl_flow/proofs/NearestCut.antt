-- A flow to which no trail adds gives the cut nearest the starts.
use Rattle.std.proofs.Common.{◌≡◌, ℕ, suc, ◌+◌, ◌*◌, ◌^◌, ◌<◌, Bool, true, false, List, length, Option, None, is_some, refl, sym, ap, subst, ◌∙◌, arith}
use Rattle.std.proofs.lemmas.Bool.{false≢true}
use Rattle.bl_flow.specs.declared.network.Network.{Network}
use Rattle.bl_flow.specs.declared.network.LeastCut.{LeastCut}
use Rattle.bl_flow.specs.declared.split.Link.{Link}
use Rattle.bl_flow.specs.Networks.{size, InRange}
use Rattle.bl_flow.specs.Cuts.{IsLeastCut, at_place}
use Rattle.bl_flow.specs.Split.{in_part, out_part, links_of, both_ways, link_at}
use Rattle.bl_flow.specs.Searches.{IsClosed}
use Rattle.bl_flow.specs.Levels.{IsReached, here, onward, level_at, AreLevels}
use Rattle.bl_flow.specs.FullFlows.{IsFull}
use Rattle.bl_flow.proofs.CutWorth.{is_cut, weighs, lies_near, near_side}
use Rattle.bl_flow.proofs.Duality.{worth_at_most}
use Rattle.bl_flow.proofs.LevelSearch.{some_of}

-- whether a part has a level
abbrev pub has_level : List (Option ℕ) → ℕ → Bool
has_level levels part = is_some (level_at levels part)

module _ (links : List Link) (capacities : List ℕ) (root end : ℕ) where
  -- what is reached lies in each set with the root that no link with residual capacity leads out of
  into : (set : ℕ → Bool) → IsClosed links capacities set → set root ≡ true → (steps part : ℕ) → IsReached links capacities root end steps part → set part ≡ true
  into set closed inside _ _ here = inside
  into set closed inside _ _ (onward steps part k lt capacity there goes e) =
      subst (λ p. set p ≡ true) e (closed k lt capacity (into set closed inside steps (link_at links k).from there))

  module _ (levels : List (Option ℕ)) (are : AreLevels links capacities root end levels) where
    pub least : (set : ℕ → Bool) → IsClosed links capacities set → set root ≡ true → (part : ℕ) → has_level levels part ≡ true → set part ≡ true
    least set closed inside part h = let level = some_of (level_at levels part) h in into set closed inside level.0 part (are.sound part level.0 level.1)

    pub root_has : has_level levels root ≡ true
    root_has = ap is_some (are.least root 0 here).1

    -- where the end has no level, no link with residual capacity leads out of the parts that have one
    pub has_closed : level_at levels end ≡ None → IsClosed links capacities (has_level levels)
    has_closed none k lt capacity there =
        let level = some_of (level_at levels (link_at links k).from) there in
        let goes : (link_at links k).from ≡ end → ⊥ = λ e. false≢true (sym (ap is_some none) ∙ ap (has_level levels) (sym e) ∙ there) in
        ap is_some (are.least (link_at links k).to (suc level.0) (onward level.0 (link_at links k).to k lt capacity (are.sound (link_at links k).from level.0 level.1) goes refl)).1

-- what the levels show of the answer
pub is_nearest : (n : Network) (capacities : List ℕ) (levels seen_in seen_out : List (Option ℕ)) (nodes : ℕ) (r : LeastCut) → InRange n → r.weight < 2 ^ 63 → IsFull n capacities levels r.weight
    → nodes ≡ size n → seen_in ≡ levels → seen_out ≡ levels → length r.near_in ≡ nodes → length r.near_out ≡ nodes
    → ((v : ℕ) → v < nodes → at_place r.near_in v ≡ has_level seen_in (2 * v + 0)) → ((v : ℕ) → v < nodes → at_place r.near_out v ≡ has_level seen_out (2 * v + 1))
    → IsLeastCut n r
is_nearest n capacities levels seen_in seen_out nodes r range small full len same_in same_out in_length out_length ins outs = record {
  cut = is_cut n capacities r.weight full.flow range small marked root last closed r.near_in r.near_out in_size out_size in_marks out_marks;
  weight = weighs n capacities r.weight full.flow range small marked root last closed r.near_in r.near_out in_size out_size in_marks out_marks;
  least = λ other is. worth_at_most n capacities r.weight full.flow range other is;
  near = near_side n capacities r.weight full.flow range small marked root last closed r.near_in r.near_out in_size out_size in_marks out_marks in_each;
  nearest = λ other is weight. lies_near n capacities r.weight full.flow range small marked root last closed r.near_in r.near_out in_size out_size in_marks out_marks in_each other is (omega arith);
}
  where
    marked : ℕ → Bool
    marked = has_level levels

    root : marked (in_part (size n)) ≡ true
    root = root_has (both_ways (links_of n)) capacities (in_part (size n)) (out_part (size n)) levels full.levels_

    last : marked (out_part (size n)) ≡ false
    last = ap is_some full.last

    closed : IsClosed (both_ways (links_of n)) capacities marked
    closed = has_closed (both_ways (links_of n)) capacities (in_part (size n)) (out_part (size n)) levels full.levels_ full.last

    in_size : length r.near_in ≡ size n
    in_size = in_length ∙ len

    out_size : length r.near_out ≡ size n
    out_size = out_length ∙ len

    in_marks : (v : ℕ) → v < size n → at_place r.near_in v ≡ has_level levels (in_part v)
    in_marks v lt = ins v (omega arith) ∙ ap (λ m. has_level m (2 * v + 0)) same_in ∙ ap (has_level levels) (omega arith)

    out_marks : (v : ℕ) → v < size n → at_place r.near_out v ≡ has_level levels (out_part v)
    out_marks v lt = outs v (omega arith) ∙ ap (λ m. has_level m (2 * v + 1)) same_out

    in_each : (set : ℕ → Bool) → IsClosed (both_ways (links_of n)) capacities set → set (in_part (size n)) ≡ true → (part : ℕ) → has_level levels part ≡ true → set part ≡ true
    in_each set closed_ inside part h = least (both_ways (links_of n)) capacities (in_part (size n)) (out_part (size n)) levels full.levels_ set closed_ inside part h
