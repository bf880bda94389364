use Rattle.std.proofs.Common.{◌≡◌, ◌∙◌, Bor, Err, List, ℕ, ap, map, subst}
use Rattle.bl_link.specs.LinkAnswers.{Gives}
use Rattle.bl_link.specs.Links.{links}
use Rattle.bl_link.specs.declared.part.Part.{Part as LinkPart}
use Rattle.bl_wasm.specs.declared.linked.Tree.{Tree}
use Rattle.bl_build.specs.StageAnswers.{IsLinkingError}
use Rattle.bl_build.specs.declared.loading.Ready.{Ready}
use Rattle.bl_build.proofs.ModuleAnswers.{names_module, not_linked}
use Rattle.bl_build.proofs.loading.link_all.Goals as goal

pub of_linking-requires : goal.of_linking-requires
of_linking-requires c =
    let names : c.as_slice-in-Err.result.now ≡ map (λ (one : Ready). one.name) c.args.ready.items =
    c.as_slice-in-Err.ensures.value ∙ c.in_ok-names.ensures ∙ ap (map (λ (one : Ready). one.name)) c.as_slice.ensures.value in
    names_module c.args.ready.items c.as_slice-in-Err.result.now c.in_ok-parts.parts names c.in_ok-parts.ensures c.in-Err.error c.in-Err.ensures

pub returns : goal.returns
returns c =
    let names : c.as_slice-in-Err.result.now ≡ map (λ (one : Ready). one.name) c.args.ready.items =
    c.as_slice-in-Err.ensures.value ∙ c.in_ok-names.ensures ∙ ap (map (λ (one : Ready). one.name)) c.as_slice.ensures.value in
    not_linked (λ (tree : Tree). tree) c.args.ready.items c.in-Err.error c.of_linking.result
    (subst (λ (parts : List LinkPart). Gives (Err c.in-Err.error) (links parts)) c.in_ok-parts.ensures c.in-Err.ensures)
    (subst (λ (names : List (Bor (List ℕ))). IsLinkingError names c.in-Err.error c.of_linking.result) names c.of_linking.ensures)
