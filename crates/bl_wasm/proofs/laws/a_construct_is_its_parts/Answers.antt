use Rattle.bl_wasm.specs.Typing.{labels}
use Rattle.bl_wasm.proofs.SequenceLemmas.{block_made, loop_made, if_made, else_made, block_of, loop_of, if_of, else_of}
use Rattle.bl_wasm.proofs.laws.a_construct_is_its_parts.Goals as goal

pub returns : goal.returns
returns c = record {
  blocks = λ context outer i inside more from to n m.
      (λ s. block_made context outer i inside more from to n m s, λ p. block_of context (labels context outer) i inside more from to p);
  loops = λ context outer i inside more from to n m.
      (λ s. loop_made context outer i inside more from to n m s, λ p. loop_of context (labels context outer) i inside more from to p);
  ifs = λ context outer i inside more from to n m.
      (λ s. if_made context outer i inside more from to n m s, λ p. if_of context (labels context outer) i inside more from to p);
  elses = λ context outer i first second more from to f n m.
      (λ s. else_made context outer i first second more from to f n m s, λ p. else_of context (labels context outer) i first second more from to p);
}
