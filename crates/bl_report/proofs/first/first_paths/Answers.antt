use Rattle.std.proofs.Common.{ap, ◌∙◌}
use Rattle.bl_report.specs.SiteTables.{noted}
use Rattle.bl_report.proofs.FirstPaths.{none_noted}
use Rattle.bl_report.proofs.first.first_paths.Goals as goal

pub note_paths-requires : goal.note_paths-requires
note_paths-requires c = λ s. ap (λ l. noted l s) (c.deref_mut.ensures.value ∙ c.in_ok-firsts.ensures) ∙ none_noted c.args.count s
