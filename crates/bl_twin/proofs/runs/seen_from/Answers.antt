use Rattle.bl_rob.specs.CallResults.{seen_in, shown}
use Rattle.bl_rob.proofs.ObservationLemmas.{observed_so_by}
use Rattle.bl_twin.proofs.runs.seen_from.Goals as goal

pub returns : goal.returns
returns g c =
    (observed_so_by (g.P.Loads.rules g.row.W) c.args.program.now c.in_ok-rob.rob.program c.args.function c.args.start.now c.args.directives.now (shown c.in_ok-rob.rob.machine)
    (shown c.observe.new.self.machine) (seen_in c.in_ok-seen.seen) c.in_ok-rob.ensures.0 c.in_ok-rob.ensures.1 c.in_ok-seen.ensures.seen).0
