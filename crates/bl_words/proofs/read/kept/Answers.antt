use Rattle.std.proofs.Common.{◌∙◌, ap, not, subst, sym}
use Rattle.std.proofs.lemmas.Bool.{cond-false, cond-true, false≢true}
use Rattle.bl_text.specs.Names.{AreNamedApart}
use Rattle.bl_words.specs.Requests.{modules_in}
use Rattle.bl_words.specs.Words.{request_in}
use Rattle.bl_words.proofs.ModuleWords.{is_apart, is_twice}
use Rattle.bl_words.proofs.read.kept.Goals as goal

pub returns-then-not-branch : goal.returns-then-not-branch
returns-then-not-branch c =
    sym (cond-false _ _ _ (ap not (sym c.are_files_unlike.ensures ∙ c.if-not-are_files_unlike.false))
    ∙ cond-false _ _ _ (is_twice (modules_in (request_in c.args.request))
    (λ apart. false≢true (sym c.if-not-branch.true ∙ c.in_ok-are_named_apart.ensures.1 (subst AreNamedApart (sym c.modules_in.ensures) apart)))))

pub returns : goal.returns
returns c =
    sym (cond-false _ _ _ (ap not (sym c.are_files_unlike.ensures ∙ c.if-not-are_files_unlike.false))
    ∙ cond-true _ _ _ (is_apart (modules_in (request_in c.args.request)) (subst AreNamedApart c.modules_in.ensures (c.in_ok-are_named_apart.ensures.0 c.if-not-branch.false))))
