use Rattle.bl_wasm.proofs.ReachedLemmas.{typings_agree}
use Rattle.bl_wasm.proofs.laws.typings_agree_where_reached.Goals as goal

pub returns : goal.returns
returns c = λ context body one two h k place live. typings_agree context body one two h k place live
