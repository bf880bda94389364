use Rattle.bl_wasm.proofs.SequenceLemmas.{typing_is_sequence, sequence_is_typing}
use Rattle.bl_wasm.proofs.laws.a_typing_is_a_sequence.Goals as goal

pub returns : goal.returns
returns c = λ context body. (typing_is_sequence context body, sequence_is_typing context body)
