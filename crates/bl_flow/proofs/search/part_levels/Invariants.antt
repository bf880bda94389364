use Rattle.std.proofs.Common.{◌≡◌, ◌<◌, ◌≤◌, ℕ, length, slice_index, ◌⊎◌, Some}
use Rattle.std.specs.List.{Contains}
use Rattle.bl_flow.specs.Split.{link_at}
use Rattle.bl_flow.specs.Levels.{Levelling, level_at}
use Rattle.bl_flow.proofs.search.part_levels.Given as goal

abbrev pub invariant-loop-rest : goal.invariant-loop-rest
invariant-loop-rest l = record {
  places : length l.levels.items ≡ length l.split.rows;
  empty : length l.queue ≡ 0;
  state : Levelling l.split.links l.capacities l.root l.end l.stops l.levels.items l.queue 0 l.root;
  sound : (k : ℕ) → Contains l.rest k → (k < length l.split.links) × ((link_at l.split.links k).from ≡ l.root) × (l.root ≡ l.end → ⊥);
  full : (l.root ≡ l.end → ⊥) → (k : ℕ) → k < length l.split.links → 0 < slice_index l.capacities k → (link_at l.split.links k).from ≡ l.root
      → Contains l.rest k ⊎ ((e : ℕ) × (level_at l.levels.items (link_at l.split.links k).to ≡ Some e) × (e ≤ 1));
}

abbrev pub decreases-loop-rest : goal.decreases-loop-rest
decreases-loop-rest l = length l.rest
