use Rattle.std.proofs.Common.{[]}
use Rattle.bl_wasm.proofs.OpenConstructLemmas.{closes, nests, through, from_through}
use Rattle.bl_wasm.proofs.laws.nesting_is_closing.Goals as goal

pub returns : goal.returns
returns c = record {
  closing = λ items. (closes items, nests items);
  through = λ items. (λ n. through items [] (closes items n), λ e. nests items (from_through items [] e));
}
