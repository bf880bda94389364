use Rattle.bl_app.proofs.JoinedModules.{joined_ends, joined_origin}
use Rattle.bl_app.proofs.laws.joined_images_end_as_linked_modules.Goals as goal

pub returns-clause-ends : goal.returns-clause-ends
returns-clause-ends c = joined_ends

pub returns-clause-nothing_else : goal.returns-clause-nothing_else
returns-clause-nothing_else c = joined_origin
