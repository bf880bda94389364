use Rattle.std.proofs.Common.{◌∙◌, ap, sym}
use Rattle.std.specs.Prelude.{unwrap_or}
use Rattle.std.proofs.lemmas.Option.{unwrap_or-slice_get}
use Rattle.bl_seq.specs.RegisterTrees.{cell_of, page_in, page_of, stray_at}
use Rattle.bl_seq.proofs.registers.Tree.at.Goals as goal

pub returns-in-None : goal.returns-in-None
returns-in-None c =
    let stray = stray_at c.args.self.now.strays c.args.x in
    c.unwrap_or.ensures ∙ ap (λ o. unwrap_or o 0) (c.copied.ensures ∙ c.get-in-None.ensures.value)
    ∙ ap (λ t. stray_at t.strays c.args.x) c.self.view_is
    ∙ ap (λ o. unwrap_or o stray) (sym c.in-None.is ∙ c.get.ensures)
    ∙ unwrap_or-slice_get (page_in c.args.self.now.branches (page_of c.args.x)) (cell_of c.args.x) stray
