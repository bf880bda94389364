-- The stages of modules keep the laws; and what is known of modules that pass them.
use Rattle.std.proofs.Common.{◌≡◌, ℕ, ◌⊎◌, inl, inr, List, [], ◌∷◌, Option, Some, None, refl, ap, sym, slice_get, ◌∙◌, subst}
use Rattle.std.specs.Prelude.{Ok, Err}
use Rattle.std.specs.List.{AllZip}
use Rattle.std.proofs.lemmas.Option.{same_Some}
use Rattle.bl_base.specs.declared.quantity.Quantity.{Quantity}
use Rattle.bl_wasm.specs.declared.linked.Tree.{Tree}
use Rattle.bl_wasm.specs.declared.module.Module.{Module}
use Rattle.bl_wasm.specs.Limits.{Excess, first_excess}
use Rattle.bl_wasm.specs.Modules.{Spells}
use Rattle.bl_wasm.specs.Validity.{Typed}
use Rattle.bl_decode.specs.Supported.{IsSupported}
use Rattle.bl_decode.proofs.Trees.{one_spelled}
use Rattle.bl_validate.specs.Verdicts.{IsReason}
use Rattle.bl_validate.specs.declared.verdict.Invalid.{Invalid}
use Rattle.bl_validate.specs.declared.verdict.Invalid.TheVariants as reason
use Rattle.bl_validate.proofs.Reasons.{one_reason}
use Rattle.bl_link.specs.Links.{links}
use Rattle.bl_link.specs.declared.error.LinkError.{LinkError}
use Rattle.bl_link.specs.declared.error.LinkError.TheVariants.{Unknown, Mismatch, ElementRange, DataRange, Limit, Memory}
use Rattle.bl_build.specs.LoadStages.{Accepted, AreTold, Decodes, DecodingRefuses, IsPassed, IsRefusalOf, LabelledModule, Named, Part, Links, LinkingRefuses, ReadsLabels, bad_labels, data_range, element_range, invalid_function, mismatched_import, unknown_import, decoding, excess, labelling, linked_parts, linking, loading, no_module, not_supported, validation, unknown, mismatched, element, segment, too_large}
use Rattle.bl_job.specs.Refusals.{Refusal, limit}
use Rattle.bl_job.specs.Stages.{AllPass, IsLawfulStage, chain, each}
use Rattle.bl_build.proofs.LabelLemmas.{labels_or_fault, one_fault, one_labels}
use Rattle.bl_job.proofs.StageLemmas.{chain_lawful, each_lawful}

-- ---- decoding

-- one excess is one limit
one_limit : (found : Option Excess) (which other : Quantity) (value count : ℕ) → found ≡ Some (which, value) → found ≡ Some (other, count) → limit which value ≡ limit other count
one_limit found which other value count e f = ap (λ each. limit each.0 each.1) (same_Some (which, value) (other, count) (sym e ∙ f))

module _ (part : Part) where
  one_decoded : (a b : Named) → Decodes part a → Decodes part b → a ≡ b
  one_decoded a b p q =
      let names = p.same_name ∙ sym q.same_name in
      let trees = one_spelled part.bytes a.tree b.tree p.spelled q.spelled in
      λ i. record { name = names i; tree = trees i }

  -- what holds of one module that the bytes spell holds of another one
  same_module : (P : Module → Type 0) (tree other : Module) → Spells part.bytes tree → Spells part.bytes other → P tree → P other
  same_module P tree other s t p = subst P (one_spelled part.bytes tree other s t) p

  decoding_refusal : (a b : Refusal) → DecodingRefuses part a → DecodingRefuses part b → a ≡ b
  decoding_refusal a b (no_module none e) (no_module other f) = e ∙ sym f
  decoding_refusal a b (no_module none e) (not_supported tree s not f) = absurd (none tree s)
  decoding_refusal a b (no_module none e) (excess tree which value s is found f) = absurd (none tree s)
  decoding_refusal a b (not_supported tree s not e) (no_module none f) = absurd (none tree s)
  decoding_refusal a b (not_supported tree s not e) (not_supported other t not' f) = e ∙ sym f
  decoding_refusal a b (not_supported tree s not e) (excess other which value t is found f) = absurd (not (same_module IsSupported other tree t s is))
  decoding_refusal a b (excess tree which value s is found e) (no_module none f) = absurd (none tree s)
  decoding_refusal a b (excess tree which value s is found e) (not_supported other t not f) = absurd (not (same_module IsSupported tree other s t is))
  decoding_refusal a b (excess tree which value s is found e) (excess other which' value' t is' found' f) =
      let here = same_module (λ tree. first_excess tree ≡ Some (which', value')) other tree t s found' in
      e ∙ (one_limit (first_excess tree) which which' value value' found here ∙ sym f)

  decoding_not_both : (a : Named) (r : Refusal) → Decodes part a → DecodingRefuses part r → ⊥
  decoding_not_both a r p (no_module none e) = none a.tree p.spelled
  decoding_not_both a r p (not_supported tree s not e) = not (same_module IsSupported a.tree tree p.spelled s p.supported)
  decoding_not_both a r p (excess tree which value s is found e) =
      let within = same_module (λ tree. first_excess tree ≡ None) a.tree tree p.spelled s p.within in cc

pub decoding_lawful : IsLawfulStage decoding
decoding_lawful = record { one_result = one_decoded; one_refusal = decoding_refusal; not_both = decoding_not_both }

-- ---- validation

function_same : (name : List ℕ) (j i : ℕ) → reason.Function j ≡ reason.Function i → invalid_function name j ≡ invalid_function name i
function_same name j i e = let same : j ≡ i = cc in ap (invalid_function name) same

-- one reason is one refusal
same_reason : (name : List ℕ) (tree : Module) (reason other : Invalid) (a b : Refusal) → IsReason tree reason → IsReason tree other → IsRefusalOf name reason a → IsRefusalOf name other b → a ≡ b
same_reason name tree (reason.Function i) (reason.Function j) a b r s e f = of_one (one_reason tree (reason.Function i) (reason.Function j) (λ k. cc) r s)
  where
    of_one : (reason.Function j ≡ reason.Function i) ⊎ (reason.Function j ≡ reason.Memory) → a ≡ b
    of_one (inl same) = e ∙ (sym (function_same name j i same) ∙ sym f)
    of_one (inr memory) = absurd cc
same_reason name tree (reason.Function i) reason.Module a b r s e f = absurd (r.2.untyped (s.0 r.0 r.2.within))
same_reason name tree (reason.Function i) reason.Memory a b r s e f = absurd f
same_reason name tree reason.Module (reason.Function j) a b r s e f = absurd (s.2.untyped (r.0 s.0 s.2.within))
same_reason name tree reason.Module reason.Module a b r s e f = e ∙ sym f
same_reason name tree reason.Module reason.Memory a b r s e f = absurd f
same_reason name tree reason.Memory other a b r s e f = absurd e

-- a valid module has no reason
reason_valid : (name : List ℕ) (tree : Module) (reason : Invalid) (refusal : Refusal) → IsReason tree reason → Typed tree → IsRefusalOf name reason refusal → ⊥
reason_valid name tree (reason.Function i) refusal r typed e = r.2.untyped (typed.functions r.0 r.2.within)
reason_valid name tree reason.Module refusal r typed e = r.1 typed.rules
reason_valid name tree reason.Memory refusal r typed e = e

one_passed : (Holds : Module → Type 0) (old a b : Named) → IsPassed Holds old a → IsPassed Holds old b → a ≡ b
one_passed Holds old a b p q = p.same ∙ sym q.same

pub validation_lawful : IsLawfulStage validation
validation_lawful = record {
  one_result = one_passed Typed;
  one_refusal = λ named a b r s. same_reason named.name named.tree r.reason s.reason a b r.is_reason s.is_reason r.is_refusal s.is_refusal;
  not_both = λ named passed refusal p r. reason_valid named.name named.tree r.reason refusal r.is_reason p.holds r.is_refusal;
}

-- ---- all stages

-- reading labels answers one thing
pub labelling_lawful : IsLawfulStage labelling
labelling_lawful = record {
  one_result = λ named a b p q.
      let names = p.same_name ∙ sym q.same_name in
      let trees = p.same_tree ∙ sym q.same_tree in
      let labels = one_labels named.tree a.labels b.labels p.told q.told in
      λ i. record { name = names i; tree = trees i; labels = labels i };
  one_refusal = λ named a b r s.
      let wrong = one_fault named.tree r.error s.error r.wrong s.wrong r.told s.told r.is_fault s.is_fault in
      r.is_refusal ∙ ap (bad_labels named.name) wrong ∙ sym s.is_refusal;
  not_both = λ named a refusal p r. labels_or_fault named.tree a.labels r.error r.wrong p.told r.told r.is_fault;
}

-- linking answers one thing
module _ (labelled : List LabelledModule) where
  one_tree : (a b : Tree) → Links labelled a → Links labelled b → a ≡ b
  one_tree a b p q = let same : Ok a ≡ Ok b = sym p.is_tree ∙ q.is_tree in cc

  -- what is linked isn't refused
  linked_against : (tree : Tree) (refusal : Refusal) → Links labelled tree → LinkingRefuses labelled refusal → ⊥
  linked_against tree refusal p (unknown part import one e is r) = let is_tree = p.is_tree in cc
  linked_against tree refusal p (mismatched part import one e is r) = let is_tree = p.is_tree in cc
  linked_against tree refusal p (element part one e is r) = let is_tree = p.is_tree in cc
  linked_against tree refusal p (segment part one e is r) = let is_tree = p.is_tree in cc
  linked_against tree refusal p (too_large which value e r) = let is_tree = p.is_tree in cc

  -- a module by its number is one
  one_named : (part other : ℕ) (a b : LabelledModule) → part ≡ other → slice_get labelled part ≡ Some a → slice_get labelled other ≡ Some b → a.name ≡ b.name
  one_named part other a b same is these = ap (λ n. n.name) (same_Some a b (sym is ∙ (ap (slice_get labelled) same ∙ these)))

  -- the error, as a refusal
  abbrev Tells : LinkError → Refusal → Type 0
  Tells (Unknown part import) refusal = (one : LabelledModule) × (slice_get labelled part ≡ Some one) × (refusal ≡ unknown_import one.name import)
  Tells (Mismatch part import) refusal = (one : LabelledModule) × (slice_get labelled part ≡ Some one) × (refusal ≡ mismatched_import one.name import)
  Tells (ElementRange part) refusal = (one : LabelledModule) × (slice_get labelled part ≡ Some one) × (refusal ≡ element_range one.name)
  Tells (DataRange part) refusal = (one : LabelledModule) × (slice_get labelled part ≡ Some one) × (refusal ≡ data_range one.name)
  Tells (Limit which value) refusal = refusal ≡ limit which value
  Tells Memory refusal = ⊥

  abbrev ToldError : Refusal → Type 0
  ToldError refusal = (error : LinkError) × (links (linked_parts labelled) ≡ Err error) × Tells error refusal

  told : (refusal : Refusal) → LinkingRefuses labelled refusal → ToldError refusal
  told refusal (unknown part import one e is r) = (Unknown part import, e, (one, is, r))
  told refusal (mismatched part import one e is r) = (Mismatch part import, e, (one, is, r))
  told refusal (element part one e is r) = (ElementRange part, e, (one, is, r))
  told refusal (segment part one e is r) = (DataRange part, e, (one, is, r))
  told refusal (too_large which value e r) = (Limit which value, e, r)

  one_telling : (error : LinkError) (a b : Refusal) → Tells error a → Tells error b → a ≡ b
  one_telling (Unknown part import) a b r s = r.2 ∙ (ap (λ name. unknown_import name import) (one_named part part r.0 s.0 refl r.1 s.1) ∙ sym s.2)
  one_telling (Mismatch part import) a b r s = r.2 ∙ (ap (λ name. mismatched_import name import) (one_named part part r.0 s.0 refl r.1 s.1) ∙ sym s.2)
  one_telling (ElementRange part) a b r s = r.2 ∙ (ap element_range (one_named part part r.0 s.0 refl r.1 s.1) ∙ sym s.2)
  one_telling (DataRange part) a b r s = r.2 ∙ (ap data_range (one_named part part r.0 s.0 refl r.1 s.1) ∙ sym s.2)
  one_telling (Limit which value) a b r s = r ∙ sym s
  one_telling Memory a b r s = absurd r

  linking_refusal : (a b : Refusal) → LinkingRefuses labelled a → LinkingRefuses labelled b → a ≡ b
  linking_refusal a b r s =
      let first = told a r in
      let second = told b s in
      let same : Err first.0 ≡ Err second.0 = sym first.1 ∙ second.1 in
      let errors : second.0 ≡ first.0 = cc in
      one_telling first.0 a b first.2 (subst (λ error. Tells error b) errors second.2)

pub linking_lawful : IsLawfulStage linking
linking_lawful = record { one_result = one_tree; one_refusal = linking_refusal; not_both = linked_against }

pub loading_lawful : IsLawfulStage loading
loading_lawful =
    let labelled = chain_lawful (each labelling) linking (each_lawful labelling labelling_lawful) linking_lawful in
    let valid = chain_lawful (each validation) (chain (each labelling) linking) (each_lawful validation validation_lawful) labelled in
    chain_lawful (each decoding) (chain (each validation) (chain (each labelling) linking)) (each_lawful decoding decoding_lawful) valid

-- ---- modules that are loaded

-- each of them, by its bytes
abbrev pub IsAccepted : Part → LabelledModule → Type 0
IsAccepted part labelled = (labelled.name ≡ part.name) × Accepted part.bytes labelled.tree labelled.labels

accepted_of : (part : Part) (a b : Named) (c : LabelledModule) → Decodes part a → IsPassed Typed a b → ReadsLabels b c → IsAccepted part c
accepted_of part a b c decoded valid labels =
    let last = sym labels.same_tree in
    let same = ap (λ n. n.tree) (sym valid.same) ∙ last in (
      labels.same_name ∙ (ap (λ n. n.name) valid.same ∙ decoded.same_name),
      record {
        spelled = subst (Spells part.bytes) same decoded.spelled;
        supported = subst IsSupported same decoded.supported;
        within = subst (λ tree. first_excess tree ≡ None) same decoded.within;
        valid = subst Typed same valid.holds;
        told = subst (λ tree. AreTold tree (Ok c.labels)) last labels.told;
      },
    )

pub all_accepted : (parts : List Part) (xs ys : List Named) (zs : List LabelledModule) → AllPass decoding parts xs → AllPass validation xs ys → AllPass labelling ys zs → AllZip IsAccepted parts zs
all_accepted [] [] [] [] d v l = tt
all_accepted [] [] [] (c ∷ zs) d v l = absurd l
all_accepted [] [] (b ∷ ys) zs d v l = absurd v
all_accepted [] (a ∷ xs) ys zs d v l = absurd d
all_accepted (part ∷ parts) [] ys zs d v l = absurd d
all_accepted (part ∷ parts) (a ∷ xs) [] zs d v l = absurd v
all_accepted (part ∷ parts) (a ∷ xs) (b ∷ ys) [] d v l = absurd l
all_accepted (part ∷ parts) (a ∷ xs) (b ∷ ys) (c ∷ zs) d v l = (accepted_of part a b c d.0 v.0 l.0, all_accepted parts xs ys zs d.1 v.1 l.1)
