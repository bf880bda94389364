use Rattle.bl_app.proofs.ImageLemmas.{built_of, compiled_of}
use Rattle.bl_app.proofs.laws.what_is_compiled_is_built.Goals as goal

pub returns : goal.returns
returns c = λ words contents built. (built_of words contents built, compiled_of words contents built)
