use Rattle.std.proofs.Common.{ℕ, ◌++◌, [], ◌∷◌, ◌∙◌, ap, subst, append_assoc, map, codes, decimal, List}
use Rattle.json.specs.Token.{Token, begin_array, begin_object, end_array, end_object, key, number}
use Rattle.bl_witness.specs.Tokens.{Adds, site_token}
use Rattle.bl_witness.proofs.Tokens.{adds_none, then_all, then_one}
use Rattle.bl_witness.proofs.write.write_path.Goals as goal

pub returns : goal.returns
returns c =
    let path = c.args.path.now in
    let front : ℕ → List Token → List Token =
    λ sink ts. begin_object ∷ key (codes "amount") ∷ number (decimal path.amount) ∷ key (codes "sink") ∷ number (decimal sink) ∷ key (codes "sites") ∷ begin_array ∷ ts in
    let amount = then_one (then_one (then_one (adds_none c.args.out.now) c.in_ok-begin_object.ensures) c.in_ok-key.ensures) c.in_ok-u64.ensures in
    let sink = then_one (then_one amount c.in_ok-key-2.ensures) c.in_ok-u64-2.ensures in
    let sites = then_all (then_one (then_one sink c.in_ok-key-3.ensures) c.in_ok-begin_array.ensures) c.in_ok-write_sites.ensures in
    let whole = then_one (then_one sites c.in_ok-end_array.ensures) c.in_ok-end_object.ensures in
    subst (Adds c.args.out.now c.end_object.new.self)
    (ap (λ n. front n (map site_token c.as_slice.result.now ++ end_array ∷ [] ++ end_object ∷ [])) c.from.ensures
    ∙ ap (λ s. front path.sink.0 (map site_token s ++ end_array ∷ [] ++ end_object ∷ [])) c.as_slice.ensures
    ∙ ap (front path.sink.0) (append_assoc (map site_token path.sites) (end_array ∷ []) (end_object ∷ []))) whole
