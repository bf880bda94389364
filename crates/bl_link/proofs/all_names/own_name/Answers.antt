use Rattle.std.proofs.Common.{[], ◌∷◌, None, Some}
use Rattle.std.proofs.lemmas.Bool.Decides.{Decides-eqb}
use Rattle.std.proofs.lemmas.Slice.Eq.{strip_prefix_is}
use Rattle.bl_link.proofs.QualifiedNames.{own_of}
use Rattle.bl_link.proofs.all_names.own_name.Goals as goal

pub returns-in-Some : goal.returns-in-Some
returns-in-Some c =
    own_of c.args.part.now c.args.name.now c.in-Some.rest.now (strip_prefix_is Decides-eqb c.args.name.now c.args.part.now (Some c.in-Some.rest) c.in-Some.ensures.cases) c.strip_prefix-in-Some.result
    (strip_prefix_is Decides-eqb c.in-Some.rest.now (0x2F ∷ []) c.strip_prefix-in-Some.result c.strip_prefix-in-Some.ensures.cases)

pub returns-in-None : goal.returns-in-None
returns-in-None c = λ own e. strip_prefix_is Decides-eqb c.args.name.now c.args.part.now None c.in-None.ensures.cases (0x2F ∷ own) e
