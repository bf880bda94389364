use Rattle.bl_wasm.proofs.LeadsLemmas.{open_at_place}
use Rattle.bl_wasm.proofs.laws.a_typing_has_open_what_is_open.Goals as goal

pub returns : goal.returns
returns c = λ context body places typing place le. open_at_place context body places typing place le
