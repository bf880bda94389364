use Rattle.std.proofs.Common.{sym, subst}
use Rattle.std.specs.Str.{IsUtf8}
use Rattle.bl_wasm.specs.Values.{byte_vec, name}
use Rattle.bl_code.specs.ReaderAnswers.{IsAt}
use Rattle.bl_code.proofs.Places.{passes, err_along, one_at}
use Rattle.bl_code.proofs.Unique.{byte_vec_prefix_free}
use Rattle.bl_code.proofs.values.read_name.Goals as goal

pub returns-in_err-text : goal.returns-in_err-text
returns-in_err-text c =
    passes _ c.args.bytes.now c.args.at c.from_residual.result _ c.from_residual.ensures.1
    (err_along byte_vec name (λ x. x) c.args.bytes.now c.args.at _ (λ x t h. h.1) c.in_err-text.ensures)

pub returns-in-Err : goal.returns-in-Err
returns-in-Err c x end h =
    let vec : IsAt byte_vec c.args.bytes.now c.args.at end x = record { forward = h.forward; inside = h.inside; spelled = h.spelled.1 } in
    let same = one_at c.args.bytes.now c.args.at c.in_ok-text.place end c.in_ok-text.text x byte_vec_prefix_free c.in_ok-text.ensures vec in
    let utf8 : IsUtf8 c.in_ok-text.text = subst IsUtf8 (sym same.1) h.spelled.0 in
    c.in-Err.ensures.cases.0 (subst IsUtf8 (sym c.as_slice.ensures) utf8)
