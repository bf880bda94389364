use Rattle.std.proofs.Common.{◌≡◌, ◌++◌, [], ◌∷◌, ◌∙◌, List, ap, codes, subst, sym, ℕ}
use Rattle.bl_build.specs.HardenStage.{hardening}
use Rattle.bl_build.specs.LoadStages.{AreShort, parts_of}
use Rattle.bl_job.specs.WorkAnswers.{IsStaged, contents_in}
use Rattle.bl_job.specs.declared.content.Content.{Content}
use Rattle.bl_build.specs.StageAnswers.{hardened_in}
use Rattle.bl_app.proofs.generate.hardened_of.Goals as goal

-- one content, which is of these bytes
one : (all none : List Content) (content : Content) (bytes these : List ℕ) → all ≡ none ++ content ∷ [] → none ≡ [] → contents_in (content ∷ []) ≡ these ∷ [] → these ≡ bytes → contents_in all ≡ bytes ∷ []
one all none content bytes these grown empty is same = ap contents_in (grown ∙ ap (λ (before : List Content). before ++ content ∷ []) empty) ∙ is ∙ ap (λ (all : List ℕ). all ∷ []) same

pub compile_hardened-requires-clause-short : goal.compile_hardened-requires-clause-short
compile_hardened-requires-clause-short c =
    let same = one c.push.new.self.items c.new-contents.result.items c.in_ok-content.content c.args.bytes.items c.deref.result.now c.in_ok-push.ensures.items c.new-contents.ensures.items
    (ap (λ (all : List ℕ). all ∷ []) c.in_ok-content.ensures) c.deref.ensures.value in
    subst (AreShort (codes "gen" ∷ [])) (sym same) (c.requires, tt)

pub returns : goal.returns
returns c =
    let same = one c.push.new.self.items c.new-contents.result.items c.in_ok-content.content c.args.bytes.items c.deref.result.now c.in_ok-push.ensures.items c.new-contents.ensures.items
    (ap (λ (all : List ℕ). all ∷ []) c.in_ok-content.ensures) c.deref.ensures.value in
    subst (λ (contents : List (List ℕ)). IsStaged hardening hardened_in (parts_of (codes "gen" ∷ []) contents) c.compile_hardened.result) same c.compile_hardened.ensures
