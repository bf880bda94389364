use Rattle.bl_build.proofs.BuildLemmas.{compiling_lawful, lowering_lawful, sizing_lawful}
use Rattle.bl_build.proofs.CertificateLemmas.{certifying_lawful}
use Rattle.bl_build.proofs.EntryStageLemmas.{finding_lawful, imaging_lawful, starting_lawful}
use Rattle.bl_build.proofs.InterfaceLemmas.{choosing_lawful, matching_lawful, reading_lawful, typing_lawful, uniting_lawful}
use Rattle.bl_build.proofs.InvocationLemmas.{invoking_lawful}
use Rattle.bl_build.proofs.LoadLemmas.{decoding_lawful, labelling_lawful, linking_lawful, loading_lawful, validation_lawful}
use Rattle.bl_build.proofs.TraceLemmas.{tracing_lawful}
use Rattle.bl_build.proofs.WeightLemmas.{compiling_by_lawful, weighing_lawful}
use Rattle.bl_build.proofs.laws.stages_are_lawful.Goals as goal

pub returns-clause-decoding : goal.returns-clause-decoding
returns-clause-decoding c = decoding_lawful

pub returns-clause-validation : goal.returns-clause-validation
returns-clause-validation c = validation_lawful

pub returns-clause-labelling : goal.returns-clause-labelling
returns-clause-labelling c = labelling_lawful

pub returns-clause-linking : goal.returns-clause-linking
returns-clause-linking c = linking_lawful

pub returns-clause-lowering : goal.returns-clause-lowering
returns-clause-lowering c = lowering_lawful

pub returns-clause-weighing : goal.returns-clause-weighing
returns-clause-weighing c = weighing_lawful

pub returns-clause-sizing : goal.returns-clause-sizing
returns-clause-sizing c = sizing_lawful

pub returns-clause-invoking : goal.returns-clause-invoking
returns-clause-invoking c = invoking_lawful

pub returns-clause-imaging : goal.returns-clause-imaging
returns-clause-imaging c = imaging_lawful

pub returns-clause-finding : goal.returns-clause-finding
returns-clause-finding c = finding_lawful

pub returns-clause-starting : goal.returns-clause-starting
returns-clause-starting c = starting_lawful

pub returns-clause-tracing : goal.returns-clause-tracing
returns-clause-tracing c = tracing_lawful

pub returns-clause-certifying : goal.returns-clause-certifying
returns-clause-certifying c = certifying_lawful

pub returns-clause-reading : goal.returns-clause-reading
returns-clause-reading c = reading_lawful

pub returns-clause-matching : goal.returns-clause-matching
returns-clause-matching c = matching_lawful

pub returns-clause-choosing : goal.returns-clause-choosing
returns-clause-choosing c = choosing_lawful

pub returns-clause-typing : goal.returns-clause-typing
returns-clause-typing c = typing_lawful

pub returns-clause-uniting : goal.returns-clause-uniting
returns-clause-uniting c = uniting_lawful

pub returns-clause-loading : goal.returns-clause-loading
returns-clause-loading c = loading_lawful

pub returns-clause-compiling : goal.returns-clause-compiling
returns-clause-compiling c = compiling_lawful

pub returns-clause-compiling_by : goal.returns-clause-compiling_by
returns-clause-compiling_by c = compiling_by_lawful
