use Rattle.std.proofs.Common.{◌+◌, ◌*◌, length, sym, ap, subst, refl, ◌∙◌}
use Rattle.bl_flow.specs.Levels.{AreLevelsToEnd}
use Rattle.bl_flow.proofs.LastLevels.{linked}
use Rattle.bl_flow.proofs.NetworkOfLinks.{advanced_by}
use Rattle.bl_flow.proofs.residual.flow_on.Goals as goal

pub part_levels-requires-clause-linked : goal.part_levels-requires-clause-linked
part_levels-requires-clause-linked g c = linked g.n c.args.split.now c.requires.split_

pub block_graph-requires : goal.block_graph-requires
block_graph-requires g c = (
  c.requires,
  (
    ap length c.deref.ensures.value ∙ c.in_ok-levels.ensures.places,
    subst (AreLevelsToEnd c.args.split.now.links c.args.capacities.now (2 * c.args.split.now.nodes) (2 * c.args.split.now.nodes + 1)) (sym c.deref.ensures.value) c.in_ok-levels.ensures.to_end,
  ),
)

pub returns-clause-advanced : goal.returns-clause-advanced
returns-clause-advanced g c =
    advanced_by g.n c.args.split.now c.args.capacities.now c.block_graph.new.capacities c.args.amount c.in_ok-levels.levels.items c.deref.result.now c.block_graph.result c.requires.split_ c.deref.ensures.value
    (c.in_ok-levels.ensures.least refl) c.block_graph.ensures.flow c.block_graph.ensures.blocked
