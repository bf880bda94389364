use Rattle.bl_flow.proofs.NetworkOfLinks.{split_within, sorted_is_laid}
use Rattle.bl_flow.proofs.layout.lay_out_of.Goals as goal

pub with_rows-requires : goal.with_rows-requires
with_rows-requires c = let within = split_within c.args.n c.in_ok-split.field-0 c.requires.in_range c.in_ok-split.ensures in record { small = within.0; inside = within.1 }

pub returns : goal.returns
returns c = sorted_is_laid c.args.n c.in_ok-split.field-0 c.in_ok-layout.layout c.requires.in_range c.requires.bounded c.requires.total c.in_ok-split.ensures c.in_ok-layout.ensures
