use Rattle.bl_wasm.proofs.IndexMapLemmas.{carries, carries_whole}
use Rattle.bl_wasm.proofs.laws.a_typing_carries_over.Goals as goal

pub returns : goal.returns
returns c = record {
  items = λ names here there alike locals results open_ones items places h. carries names here there alike locals results items open_ones places h;
  bodies = λ names here there alike locals results body places h. carries_whole names here there alike locals results body places h;
}
