use Rattle.bl_cmd.proofs.TableLemmas.{passed_is, none_test}
use Rattle.bl_cmd.proofs.place.Place.is_passed.Goals as goal

pub returns : goal.returns
returns c =
    let is = passed_is _ _ _ _ _ _ c.requires.place.tables c.requires.place.holds c.requires.inside c.entrants_of.ensures in
    let test = none_test c.entrants_of.result c.is_none.result c.is_none.ensures in
    (λ t. is.0 (test.0 t), λ passed. test.1 (is.1 passed))
