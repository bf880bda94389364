use Rattle.bl_app.proofs.KeptCounts.{taken}
use Rattle.bl_app.proofs.laws.kept_counts_are_taken.Goals as goal

pub returns : goal.returns
returns c = λ run word image start told request file modules counts built range named asked short is of_modules d.
    taken run word image start told request file modules counts built range named asked short is of_modules d
