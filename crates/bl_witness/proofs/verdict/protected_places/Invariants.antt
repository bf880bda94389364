use Rattle.std.proofs.Common.{◌≡◌, ◌+◌, drop}
use Rattle.std.specs.List.{count_by}
use Rattle.bl_base.specs.declared.number.Pos.{Pos}
use Rattle.bl_program.specs.Sites.{is_protected}
use Rattle.bl_witness.proofs.verdict.protected_places.Given as goal

abbrev pub invariant-loop-site : goal.invariant-loop-site
invariant-loop-site l =
    l.count + count_by (λ (s : Pos). is_protected l.parts s.0) (drop l.site-index l.sites) ≡ count_by (λ (s : Pos). is_protected l.parts s.0) l.sites
