use Rattle.std.proofs.Common.{take, Bor, List, ℕ}
use Rattle.bl_text.specs.Names.{module_name}
use Rattle.bl_base.proofs.NameSets.{Collects}
use Rattle.bl_words.proofs.modules.are_named_apart.Given as goal

abbrev pub invariant-loop-word : goal.invariant-loop-word
invariant-loop-word l = Collects (λ (word : Bor (List ℕ)). module_name word.now) (take l.word-index l.words) l.names
