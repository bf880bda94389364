use Rattle.bl_words.proofs.WordsLemmas.{gen_in_range}
use Rattle.bl_words.proofs.laws.gen_in_range.Goals as goal

pub returns : goal.returns
returns c = gen_in_range
