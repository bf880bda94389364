use Rattle.std.proofs.Common.{sym}
use Rattle.bl_lower.proofs.DefinitionLemmas.{results_more}
use Rattle.bl_lower.proofs.definitions.demands.Goals as goal

pub loop-number-preserved : goal.loop-number-preserved
loop-number-preserved c =
    rw (c.in_ok-push_results.ensures, c.as_slice.ensures, sym c.index-functions-number.is)
    (results_more c.args.functions.now c.loop-number.number c.index-functions-number.result c.loop-number.all _ c.loop-number-test.true c.index-functions-number.is c.loop-number.invariant)
