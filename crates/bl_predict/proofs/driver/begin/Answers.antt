use Rattle.bl_predict.proofs.driver.begin.Goals as goal

pub returns-clause-begun : goal.returns-clause-begun
returns-clause-begun c = λ i. record {
  state = c.in_ok-rob.ensures.1 i;
  counters = c.in_ok-counters.ensures i;
  sets = c.in_ok-new.ensures i;
  trace = c.new-2.ensures i;
  rollbacks = 0;
  hits = 0;
  misses = 0;
}
