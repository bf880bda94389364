use Rattle.std.proofs.Common.{◌≡◌, ◌∙◌, ◌||◌, ap, sym, refl, Bool, true, false, not}
use Rattle.std.proofs.lemmas.Bool.{cond-false, cond-true}
use Rattle.std.specs.Str.{bytes_eq}
use Rattle.bl_words.specs.Requests.{file_named, is_none_of}
use Rattle.bl_words.specs.Words.{text_in}
use Rattle.bl_words.proofs.WordsLemmas.{none_of}
use Rattle.bl_words.proofs.read.is_none_of.Goals as goal

one_alone : (b : Bool) → not b ≡ not (b || false)
one_alone true = refl
one_alone false = refl

pub returns-then-contains : goal.returns-then-contains
returns-then-contains c = sym (none_of c.args.file.now c.args.others.now c.args.named ∙ cond-true _ _ _ (sym c.contains.ensures.value ∙ c.if-contains.true))

pub returns-in-Some : goal.returns-in-Some
returns-in-Some c =
    c.ne.ensures ∙ one_alone (bytes_eq c.in-Some.other.now c.args.file.now) ∙ ap (λ named. is_none_of c.args.file.now (file_named (text_in named))) (sym c.in-Some.is)
    ∙ sym (none_of c.args.file.now c.args.others.now c.args.named ∙ cond-false _ _ _ (sym c.contains.ensures.value ∙ c.if-contains.false))

pub returns-in-None : goal.returns-in-None
returns-in-None c =
    ap (λ named. is_none_of c.args.file.now (file_named (text_in named))) (sym c.in-None.is)
    ∙ sym (none_of c.args.file.now c.args.others.now c.args.named ∙ cond-false _ _ _ (sym c.contains.ensures.value ∙ c.if-contains.false))
