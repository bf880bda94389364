use Rattle.std.proofs.Common.{ap, length, arith, Ok, List}
use Rattle.std.specs.Prelude.{fold}
use Rattle.std.specs.List.{enumerate_from}
use Rattle.std.specs.Vec.Iter.{into_iter_items}
use Rattle.bl_link.specs.Links.{with_next}
use Rattle.bl_link.specs.IndexSpaces.{Part}
use Rattle.bl_link.proofs.PartLoop.{can, fold_fails, goes_on}
use Rattle.bl_link.proofs.TreeParts.{makes_err}
use Rattle.bl_link.proofs.all_parts.+link_rest.Goals as goal

pub link_part-requires : goal.link_part-requires
link_part-requires t c = can c.args.store.now c.args.number (into_iter_items c.args.rest) _ c.in-Some.part c.requires c.in-Some.ensures.cases.0

pub link_rest-requires : goal.link_rest-requires
link_rest-requires t c = (
  omega (arith, ap (λ (l : List Part). length l) c.in-Some.ensures.cases.0),
  goes_on c.args.store.now c.link_part.new.store c.args.number (into_iter_items c.args.rest) _ c.in-Some.part c.requires c.in-Some.ensures.cases.0 c.in-Ok.ensures,
)

pub returns-in-Err : goal.returns-in-Err
returns-in-Err t c = makes_err Unit Unit c.in-Err.error c.link_part.new.store c.link_part.new.store (with_next (Ok c.args.store.now) (c.args.number, c.in-Some.part)) (fold with_next (Ok c.args.store.now) (enumerate_from c.args.number (into_iter_items c.args.rest)))
    (λ failed. fold_fails c.args.store.now c.args.number (into_iter_items c.args.rest) _ c.in-Some.part c.in-Err.error c.in-Some.ensures.cases.0 failed) c.in-Err.ensures
