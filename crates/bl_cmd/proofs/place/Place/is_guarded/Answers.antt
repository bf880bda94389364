use Rattle.std.proofs.Common.{◌∙◌, ap, refl, Some, eq-eqb}
use Rattle.std.proofs.lemmas.Bool.{eqb-true}
use Rattle.bl_cmd.proofs.TableLemmas.{guarded_is, unentered_is}
use Rattle.bl_cmd.proofs.place.Place.is_guarded.Goals as goal

pub returns-then-entrants-before : goal.returns-then-entrants-before
returns-then-entrants-before c =
    let is = guarded_is _ _ _ _ _ _ c.requires.place.tables c.requires.place.holds c.requires.inside (c.entrants_of.ensures ∙ ap Some c.in-Some.is) in
    (λ t. is.0 (c.if-entrants-before.true, eqb-true _ _ t), λ guarded. eq-eqb _ _ (is.1 guarded).1)

pub returns-else-entrants-before : goal.returns-else-entrants-before
returns-else-entrants-before c =
    let is = guarded_is _ _ _ _ _ _ c.requires.place.tables c.requires.place.holds c.requires.inside (c.entrants_of.ensures ∙ ap Some c.in-Some.is) in
    (λ t. absurd (c.if-entrants-before.false (eqb-true _ _ t)), λ guarded. eq-eqb _ _ (is.1 guarded).0)

pub returns-in-None : goal.returns-in-None
returns-in-None c = (
  λ _. unentered_is _ _ _ _ _ _ c.requires.place.tables c.requires.place.holds c.requires.inside (c.entrants_of.ensures ∙ ap Some c.in-None.is),
  λ _. refl,
)
