use Rattle.bl_app.proofs.ImageLemmas.{backward, forward}
use Rattle.bl_app.proofs.laws.images_run_as_their_modules.Goals as goal

pub returns-clause-forward : goal.returns-clause-forward
returns-clause-forward c = λ request image_name start_name start contents counts built plan compiled. forward request image_name start_name start contents counts built compiled plan

pub returns-clause-backward : goal.returns-clause-backward
returns-clause-backward c = λ request image_name start_name start contents counts built plan compiled. backward request image_name start_name start contents counts built compiled plan
