use Rattle.std.proofs.Common.{◌≡◌, ◌<◌, ◌+◌, ◌*◌, ◌-◌, ◌^◌, ℕ, length, map, take, slice_index, min, nat_eq}
use Rattle.std.specs.List.{count_by}
use Rattle.bl_base.specs.declared.number.Pos.{Pos}
use Rattle.bl_graph.proofs.flows.add_path.Given as goal

abbrev pub invariant-loop-site : goal.invariant-loop-site
invariant-loop-site l = (s : ℕ) → s < length l.fn.flows
    → slice_index l.flows s ≡ min (slice_index l.fn.flows s + l.amount * count_by (λ t. nat_eq t s) (take l.site-index (map (λ (p : Pos). p.0) l.sites))) (2 ^ 64 - 1)
