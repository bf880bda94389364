use Rattle.std.proofs.Common.{◌≡◌, ℕ, ◌<◌, length}
use Rattle.bl_flow.specs.Levels.{level_at}
use Rattle.bl_flow.specs.PackedNetworks.{lowered}
use Rattle.bl_flow.proofs.residual.place_levels.Given as goal

abbrev pub invariant-loop-p : goal.invariant-loop-p
invariant-loop-p l = record {
  places_ : length l.list.items ≡ l.p;
  each_ : (q : ℕ) → q < l.p → level_at l.list.items q ≡ lowered (level_at l.levels q);
}
