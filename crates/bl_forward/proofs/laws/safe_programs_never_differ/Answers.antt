use Rattle.bl_twin.proofs.Comparisons.{never_by}
use Rattle.bl_forward.specs.ForwardMachines.{forward_step}
use Rattle.bl_forward.specs.SameSights.{seen_decided}
use Rattle.bl_forward.specs.SightTexts.{are_same}
use Rattle.bl_forward.proofs.laws.safe_programs_never_differ.Goals as goal

pub returns : goal.returns
returns c = never_by are_same seen_decided forward_step
