use Rattle.std.proofs.Common.{◌∙◌}
use Rattle.bl_base.proofs.SetLemmas.{kept, kept-none}
use Rattle.bl_base.proofs.sites.SiteSet.new.Goals as goal

pub returns : goal.returns
returns c = (λ i. kept (c.new.ensures.items i) (c.new-2.ensures.empty i)) ∙ kept-none
