use Rattle.std.proofs.Common.{◌≡◌, ◌+◌, ◌∙◌, Some, length, slice_get, refl, sym, ap, subst}
use Rattle.std.specs.Prelude.{unwrap_or}
use Rattle.std.proofs.lemmas.Option.{slice_get_read}
use Rattle.bl_wasm.specs.Exports.{value_named}
use Rattle.bl_wasm.specs.TypeNumbers.{first_of, with_number}
use Rattle.bl_wasm.proofs.EqualTypes.{Knows, met, one_more}
use Rattle.bl_wasm.proofs.type_numbers.number_types.Goals as goal

pub loop-i-preserved : goal.loop-i-preserved
loop-i-preserved c =
    let types = c.args.types.now in
    let i = c.loop-i.i in
    let known = c.loop-i.known in
    let here : slice_get types i ≡ Some c.index-types-i.result = slice_get_read types (length types) i c.index-types-i.result refl c.loop-i-test.true c.index-types-i.is in
    let m = met types i c.index-types-i.result known here c.loop-i.invariant.1 _ refl in
    let number = c.in_ok-number.ensures.value ∙ ap (λ text. unwrap_or (value_named text known) i) c.in_ok-text.ensures ∙ m.0 in (
      c.in_ok-push.ensures.items ∙ one_more (first_of types) types i c.index-types-i.result c.loop-i.numbers.items c.in_ok-number.number here c.loop-i.invariant.0 number,
      subst (Knows types (i + 1)) (sym (c.in_ok-number.ensures.after ∙ ap (λ text. with_number (value_named text known) text i known) c.in_ok-text.ensures)) m.1,
    )
