use Rattle.bl_app.proofs.CountLemmas.{weighed_by_rules}
use Rattle.bl_app.proofs.HiddenProtects.{hidden, shown}
use Rattle.bl_app.proofs.laws.protects_do_not_show.Goals as goal

pub returns : goal.returns
returns c = λ request tree counts built hardened start plan linked few weighed image h.
    let wells = weighed_by_rules counts tree built.program linked few weighed in
    (shown request built.program wells built.image start image hardened h plan, hidden request built.program wells built.image start image hardened h plan)
