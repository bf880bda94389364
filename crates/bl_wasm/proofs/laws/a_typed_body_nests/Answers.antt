use Rattle.bl_wasm.proofs.LeadsLemmas.{typing_nests}
use Rattle.bl_wasm.proofs.laws.a_typed_body_nests.Goals as goal

pub returns : goal.returns
returns c = λ context body places h. typing_nests context body places h
