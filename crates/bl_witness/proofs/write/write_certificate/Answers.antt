use Rattle.std.proofs.Common.{◌++◌, [], ◌∷◌, ap, subst, flat_map, codes, decimal, List}
use Rattle.json.specs.Token.{Token, begin_array, begin_object, end_array, end_object, key, number}
use Rattle.bl_witness.specs.Tokens.{Adds, path_tokens}
use Rattle.bl_witness.proofs.Tokens.{adds_none, then_all, then_one}
use Rattle.bl_witness.proofs.write.write_certificate.Goals as goal

pub returns : goal.returns
returns c =
    let kept = c.args.certificate.now in
    let front : List Token → List Token = λ ts. begin_object ∷ key (codes "paths") ∷ begin_array ∷ ts in
    let weight : List Token = key (codes "weight") ∷ number (decimal kept.weight) ∷ end_object ∷ [] in
    let begun = then_one (then_one (then_one (adds_none c.args.out.now) c.in_ok-begin_object.ensures) c.in_ok-key.ensures) c.in_ok-begin_array.ensures in
    let paths = then_all begun c.in_ok-write_paths.ensures in
    let end = then_one (then_one (then_one (then_one (adds_none _) c.in_ok-end_array.ensures) c.in_ok-key-2.ensures) c.in_ok-u64.ensures) c.in_ok-end_object.ensures in
    subst (Adds c.args.out.now c.end_object.new.self) (ap (λ ps. front (flat_map path_tokens ps ++ end_array ∷ weight)) c.as_slice.ensures) (then_all paths end)
