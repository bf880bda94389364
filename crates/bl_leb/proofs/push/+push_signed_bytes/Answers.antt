use Rattle.std.proofs.Common.{◌≡◌, ◌+◌, ◌<◌, ℤ, pos, ◌+ℤ◌, ◌≤ℤ◌, ◌<ℤ◌, nat_abs, ap, ◌∙◌, to_z, of_z, w32, arith}
use Rattle.std.specs.Int.{int_div_euclid, int_rem_euclid}
use Rattle.std.proofs.lemmas.Int.{ints, to_z-of_z}
use Rattle.std.proofs.lemmas.Result.{on_ok_weaker}
use Rattle.bl_leb.proofs.Signed.{appends_more, euclid}
use Rattle.bl_leb.proofs.push.+push_signed_bytes.Goals as goal

-- a remainder that isn't negative is the byte that it is cast to
byte_is : (r v : ℤ) → r ≡ int_rem_euclid v (pos 128) → (nat_abs (to_z w32 (of_z w32 r)) < 128) × (pos (nat_abs (to_z w32 (of_z w32 r))) ≡ int_rem_euclid v (pos 128))
byte_is r v is =
    let e = euclid v in
    (omega (arith, ints), omega (arith, ints))

pub returns-clause-ok : goal.returns-clause-ok
returns-clause-ok t c =
    let v = c.args.v in
    let own = to_z-of_z w32 c.args.v c.ranges.v in
    let quotient : c.div_euclid.result ≡ int_div_euclid c.args.v (pos 128) = c.div_euclid.ensures ∙ ap (λ z. int_div_euclid z (pos 128)) own in
    let low = byte_is c.rem_euclid-low.result c.args.v (c.rem_euclid-low.ensures.value ∙ ap (λ z. int_rem_euclid z (pos 128)) own) in
    let e = euclid c.args.v in
    let large : c.args.v <ℤ pos 64 → pos 0 ≤ℤ (c.args.v +ℤ pos 64) → ⊥ = λ high above. grind (arith, ints) in
    on_ok_weaker c.push_signed_bytes.result
    (appends_more c.args.v (to_z w32 (of_z w32 c.div_euclid.result)) (nat_abs (to_z w32 (of_z w32 c.rem_euclid-low.result)) + 128) c.args.to.now.items c.push-2.new.self.items c.push_signed_bytes.new.to.items
    (omega arith) (omega (arith, low.0)) (omega (arith, ints)) large c.in_ok-push-2.ensures.items)
    c.push_signed_bytes.ensures.ok
