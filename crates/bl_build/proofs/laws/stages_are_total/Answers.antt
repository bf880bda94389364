use Rattle.bl_build.proofs.BuildLemmas.{compiling_total, lowering_total, sizing_total}
use Rattle.bl_build.proofs.ImagesTotal.{certifying_total, finding_total, imaging_total, starting_total, tracing_total}
use Rattle.bl_build.proofs.InterfaceTotal.{choosing_total, matching_total, reading_total, typing_total, uniting_total}
use Rattle.bl_build.proofs.LoadTotal.{invoking_total, loading_total}
use Rattle.bl_build.proofs.ModulesTotal.{decoding_total, labelling_total, validation_total}
use Rattle.bl_build.proofs.WeightLemmas.{compiling_by_total, weighing_total}
use Rattle.bl_build.proofs.laws.stages_are_total.Goals as goal

pub returns-clause-loading : goal.returns-clause-loading
returns-clause-loading c = loading_total

pub returns-clause-compiling : goal.returns-clause-compiling
returns-clause-compiling c = compiling_total

pub returns-clause-compiling_by : goal.returns-clause-compiling_by
returns-clause-compiling_by c = compiling_by_total

pub returns-clause-invoking : goal.returns-clause-invoking
returns-clause-invoking c = invoking_total

pub returns-clause-imaging : goal.returns-clause-imaging
returns-clause-imaging c = imaging_total

pub returns-clause-finding : goal.returns-clause-finding
returns-clause-finding c = finding_total

pub returns-clause-starting : goal.returns-clause-starting
returns-clause-starting c = starting_total

pub returns-clause-tracing : goal.returns-clause-tracing
returns-clause-tracing c = tracing_total

pub returns-clause-certifying : goal.returns-clause-certifying
returns-clause-certifying c = certifying_total

pub returns-clause-reading : goal.returns-clause-reading
returns-clause-reading c = reading_total

pub returns-clause-matching : goal.returns-clause-matching
returns-clause-matching c = matching_total

pub returns-clause-choosing : goal.returns-clause-choosing
returns-clause-choosing c = choosing_total

pub returns-clause-typing : goal.returns-clause-typing
returns-clause-typing c = typing_total

pub returns-clause-uniting : goal.returns-clause-uniting
returns-clause-uniting c = uniting_total

pub returns-clause-decoding : goal.returns-clause-decoding
returns-clause-decoding c = decoding_total

pub returns-clause-validation : goal.returns-clause-validation
returns-clause-validation c = validation_total

pub returns-clause-labelling : goal.returns-clause-labelling
returns-clause-labelling c = labelling_total

pub returns-clause-sizing : goal.returns-clause-sizing
returns-clause-sizing c = sizing_total

pub returns-clause-lowering : goal.returns-clause-lowering
returns-clause-lowering c = lowering_total

pub returns-clause-weighing : goal.returns-clause-weighing
returns-clause-weighing c = λ counts. weighing_total counts
