use Rattle.std.proofs.Common.{◌-◌, ◌∷◌, ◌∙◌, ap, drop, length, sym, take}
use Rattle.bl_job.specs.WorkAnswers.{contents_in}
use Rattle.bl_job.proofs.WorkLemmas.{first_and_rest}
use Rattle.bl_job.proofs.contents.split_first.Goals as goal

pub returns-clause-are : goal.returns-clause-are
returns-clause-are c =
    let all = c.args.contents.now in
    ap contents_in (first_and_rest all c.first-item.result c.in-len1-up.len_at_least c.first-item.is)
    ∙ (λ i. sym c.bytes.ensures i ∷ contents_in (take (length all - 1) (drop 1 all)))
