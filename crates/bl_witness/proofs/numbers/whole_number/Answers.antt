use Rattle.std.proofs.Common.{◌≡◌, ◌∙◌, ◌==◌, true, false, ap, sym, drop, slice_index}
use Rattle.std.specs.Prelude.{option_and_then}
use Rattle.fast_float.specs.Text.{scan}
use Rattle.serde_json.specs.Find.{as_u64}
use Rattle.serde_json.specs.Read.{number_from, number_of}
use Rattle.bl_witness.proofs.NumberTexts.{minus_is_none}
use Rattle.bl_witness.proofs.numbers.whole_number.Goals as goal

pub returns-then-has_minus : goal.returns-then-has_minus
unfolding number_of
returns-then-has_minus c =
    let s = c.as_bytes-bytes.result.now in
    let signed : (slice_index s 0 == 45) ≡ true = sym c.if-has_minus.ensures.value in
    let read : number_of s ≡ number_from true (scan (drop 1 s)) = rw signed in
    sym (ap (λ t. option_and_then as_u64 (number_of t)) (sym c.as_bytes-bytes.ensures.value) ∙ ap (option_and_then as_u64) read ∙ minus_is_none (scan (drop 1 s)))

pub returns : goal.returns
unfolding number_of
returns c =
    let s = c.as_bytes-bytes.result.now in
    let unsigned : (slice_index s 0 == 45) ≡ false = sym c.if-has_minus.ensures.value in
    let read : number_from false (scan s) ≡ number_of s = rw unsigned in
    c.unsigned_number.ensures ∙ ap (λ p. option_and_then as_u64 (number_from false p)) c.scan.ensures.parts ∙ ap (option_and_then as_u64) (read ∙ ap number_of c.as_bytes-bytes.ensures.value)
