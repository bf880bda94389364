use Rattle.bl_rob.specs.CallResults.{seen_in}
use Rattle.bl_twin.proofs.TwinRuns.{side_by_side}
use Rattle.bl_twin.proofs.runs.compare_by.Goals as goal

pub returns : goal.returns
returns g c =
    side_by_side g.O.Sight.alike g.O.Sight.line (g.P.Loads.rules g.row.W) c.args.program.now c.args.function c.args.one.now c.args.other.now c.args.directives.now c.in_ok-agree.agree
    (seen_in c.in_ok-first.first) (seen_in c.in_ok-second.second) c.compare.result
    c.in_ok-agree.ensures c.in_ok-first.ensures c.in_ok-second.ensures c.compare.ensures.comparison c.compare.ensures.text
