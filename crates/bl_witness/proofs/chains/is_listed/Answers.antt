use Rattle.std.proofs.Common.{◌∙◌, sym}
use Rattle.std.proofs.lemmas.Bool.{false≢true}
use Rattle.bl_witness.proofs.UsePlaces.{listed_none, listed_one}
use Rattle.bl_witness.proofs.chains.is_listed.Goals as goal

pub returns-in-Some : goal.returns-in-Some
returns-in-Some c =
    let one = listed_one c.args.uses.now c.args.one c.place_of.result c.requires c.place_of.ensures.place c.in-Some.found (sym c.use_at.ensures ∙ c.in-Some.is) in
    (λ h. one.0 (c.is_same.ensures.0 h), λ h. c.is_same.ensures.1 (one.1 h))

pub returns-in-None : goal.returns-in-None
returns-in-None c = (
  λ h. absurd (false≢true h),
  λ h. absurd (listed_none c.args.uses.now c.args.one c.place_of.result c.requires c.place_of.ensures.place (sym c.use_at.ensures ∙ c.in-None.is) h),
)
