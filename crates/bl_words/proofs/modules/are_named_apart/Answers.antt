use Rattle.std.proofs.Common.{◌≡◌, sym, ◌∙◌, refl, subst, Bor, List, [], ◌∷◌, ℕ, zero, suc, ◌<◌, length, get_or, arith}
use Rattle.std.proofs.lemmas.Bool.{false≢true}
use Rattle.std.proofs.lemmas.List.{take_all}
use Rattle.bl_text.specs.Names.{module_name}
use Rattle.bl_base.proofs.NameSets.{AreApart, collects_none, collects_more, collects_twice}
use Rattle.bl_words.proofs.ModuleWords.{apart_of, named_apart_of}
use Rattle.bl_words.proofs.modules.are_named_apart.Goals as goal

abbrev name_of : Bor (List ℕ) → List ℕ
name_of word = module_name word.now

-- no word
abbrev nothing : Bor (List ℕ)
nothing = record { ref_ptr = (0, 0); now = [] }

-- within a list no other value is read
read_within : (words : List (Bor (List ℕ))) (i : ℕ) (a b : Bor (List ℕ)) → i < length words → get_or words i a ≡ get_or words i b
read_within [] i a b below = absurd (omega arith)
read_within (word ∷ words) zero a b below = refl
read_within (word ∷ words) (suc i) a b below = read_within words i a b (omega arith)

pub loop-word-init : goal.loop-word-init
loop-word-init c = collects_none name_of _ c.new-names.ensures.empty

pub loop-word-preserved : goal.loop-word-preserved
loop-word-preserved c =
    let words = c.args.words.now in
    let i = c.loop-word.word-index in
    collects_more name_of words i (get_or words i nothing) _ _ c.as_bytes.result c.loop-word-test.true (read_within words i _ _ c.loop-word-test.true)
    (c.as_bytes.ensures.value ∙ c.module_name.ensures) c.loop-word.invariant (sym c.if-not-branch.false ∙ c.in_ok-insert.ensures.added)
    c.in_ok-insert.ensures.updates

pub returns-then-not-branch : goal.returns-then-not-branch
returns-then-not-branch c =
    let words = c.args.words.now in
    let i = c.loop-word.word-index in (
      λ e. absurd (false≢true e),
      λ apart. absurd
          (collects_twice name_of words i (get_or words i nothing) _ c.as_bytes.result c.loop-word-test.true (read_within words i _ _ c.loop-word-test.true)
          (c.as_bytes.ensures.value ∙ c.module_name.ensures) c.loop-word.invariant (sym c.if-not-branch.true ∙ c.in_ok-insert.ensures.added)
          (apart_of words apart)),
    )

pub returns : goal.returns
returns c = (λ _. named_apart_of c.args.words.now (subst (AreApart name_of) (take_all _ _ c.loop-word-test.false) c.loop-word.invariant.distinct), λ _. refl)
