use Rattle.bl_base.proofs.RunLemmas.{one_next, one_end, not_both}
use Rattle.bl_reduce.specs.Steps.{source_step}
use Rattle.bl_reduce.proofs.laws.one_step.Goals as goal

pub returns : goal.returns
returns c = record {
  next = λ tree. one_next (source_step tree);
  ending = λ tree. one_end (source_step tree);
  apart = λ tree. not_both (source_step tree);
}
