use Rattle.std.proofs.Common.{◌<◌, ◌^◌, take}
use Rattle.std.specs.List.{All}
use Rattle.bl_base.specs.declared.number.Pos.{Pos}
use Rattle.bl_witness.proofs.write.sites_in_range.Given as goal

abbrev pub invariant-loop-site : goal.invariant-loop-site
invariant-loop-site l = All (λ (s : Pos). s.0 < 2 ^ 32) (take l.site-index l.sites)
