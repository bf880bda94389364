use Rattle.bl_app.proofs.GeneratedModules.{never_refused}
use Rattle.bl_app.proofs.laws.made_modules_are_never_refused.Goals as goal

pub returns : goal.returns
returns c = never_refused
