use Rattle.std.proofs.Common.{◌<◌, ◌^◌, subst}
use Rattle.std.proofs.lemmas.List.{take_all}
use Rattle.std.proofs.lemmas.List.Elements.{All-more}
use Rattle.std.specs.List.{All}
use Rattle.bl_base.specs.declared.number.Pos.{Pos}
use Rattle.bl_witness.proofs.write.sites_in_range.Goals as goal

pub loop-site-preserved : goal.loop-site-preserved
loop-site-preserved c = All-more (λ (s : Pos). s.0 < 2 ^ 32) c.args.sites.now c.loop-site.site-index _ c.loop-site-test.true c.loop-site.invariant c.number_in_range.ensures

pub returns : goal.returns
returns c = subst (All (λ (s : Pos). s.0 < 2 ^ 32)) (take_all _ _ c.loop-site-test.false) c.loop-site.invariant
