-- Runs of a tree are runs of a tree that renames it.
use Rattle.std.proofs.Common.{◌≡◌, ℕ, suc, ◌<◌, List, [], ◌∷◌, length, map, set, Option, Some, None, slice_get, refl, sym, ap, ◌∙◌, subst, arith}
use Rattle.std.specs.List.{All, fold}
use Rattle.std.proofs.lemmas.List.{length-map, length-set}
use Rattle.std.proofs.lemmas.List.Elements.{All-drop, All-get_or}
use Rattle.std.proofs.lemmas.Option.{slice_get_within}
use Rattle.bl_base.specs.Bytes.{patch_over, patched, write}
use Rattle.bl_base.specs.Fits.{LiesIn, PatchFits}
use Rattle.bl_base.specs.Runs.{MemoryState, Next, Outcome, goes, ends, stuck, EndsAfter, last, more}
use Rattle.bl_base.specs.declared.names.ValueType.{ValueType}
use Rattle.bl_base.specs.declared.start.Patch.{Patch}
use Rattle.bl_base.specs.declared.start.Start.{Start}
use Rattle.bl_base.proofs.Lists.{all_from, all_get, get_mapped, mapped_get, past_end}
use Rattle.bl_base.proofs.RunLemmas.{IsEnd, IsNext}
use Rattle.bl_reduce.specs.Runnable.{IsRunnable}
use Rattle.bl_wasm.specs.declared.linked.Tree.{Tree}
use Rattle.bl_reduce.specs.Configurations.{Config}
use Rattle.bl_reduce.specs.Outcomes.{IsStart, first_memory, first_store, opening, source}
use Rattle.bl_reduce.specs.Steps.{source_step}
use Rattle.bl_reduce.specs.TypedConfigurations.{IsTyped, IsTypedStep}
use Rattle.bl_reduce.proofs.Soundness.{preservation, typed_opening}
use Rattle.bl_rename.specs.Renamings.{Alike, AreConfigs, AreSteps, AreStores, Carries, Numbers, Parts, Renames, function_by, patch_by, start_by}
use Rattle.bl_rename.proofs.CarriedLists.{carries_set, carries_image}
use Rattle.bl_rename.proofs.RenamedSteps.{steps}

-- images of what is carried are carried
carries_images : {A B : Type 0} (place : ℕ → ℕ) (f : A → B) (xs ys : List A) → Carries place xs ys → Carries place (map f xs) (map f ys)
carries_images place f xs ys h i y e =
    let from = mapped_get f xs i y e in
    get_mapped f ys (place i) from.0 (h i from.0 from.1) ∙ ap Some from.2

module _ (numbers : Numbers) (tree there : Tree) (renames : Renames numbers tree there) where
  abbrev sizes : Tree → List ℕ
  sizes tree = map (λ memory. memory.pages) tree.memories

  -- ---- starts

  lies : (offset count m : ℕ) (o : Option ℕ) → slice_get (sizes tree) m ≡ o → LiesIn offset count o → LiesIn offset count (slice_get (sizes there) (numbers.memory m))
  lies offset count m None e h = absurd h
  lies offset count m (Some pages) e h =
      subst (LiesIn offset count) (sym (carries_images numbers.memory (λ memory. memory.pages) tree.memories there.memories renames.memories m pages e)) h

  patch_fits : (patch : Patch) → PatchFits (sizes tree) patch → PatchFits (sizes there) (patch_by numbers patch)
  patch_fits patch h = (lies patch.offset (length patch.bytes) patch.memory (slice_get (sizes tree) patch.memory) refl h.0, h.1)

  patches_fit : (patches : List Patch) → All (PatchFits (sizes tree)) patches → All (PatchFits (sizes there)) (map (patch_by numbers) patches)
  patches_fit patches h = all_from (PatchFits (sizes there)) (map (patch_by numbers) patches) (λ i patch e.
      let from = mapped_get (patch_by numbers) patches i patch e in
      subst (PatchFits (sizes there)) from.2 (patch_fits from.0 (all_get (PatchFits (sizes tree)) patches i from.0 h from.1)))

  pub start_kept : (function : ℕ) (start : Start) → IsStart tree function start → IsStart there (numbers.names.function function) (start_by numbers start)
  start_kept function start is = record {
    function = function_by numbers is.function;
    exists = carries_image numbers.names.function (function_by numbers) tree.functions there.functions function is.function renames.functions is.exists;
    type = is.type;
    typed = renames.types is.function.type_index is.type is.typed;
    fits = record { arguments = is.fits.arguments; patches = patches_fit start.patches is.fits.patches };
  }

  -- ---- first stores

  record AreMemories (xs ys : List MemoryState) : Type 0 where
    count : length xs ≡ length tree.memories
    carried : Carries numbers.memory xs ys

  lies_within : (offset count m : ℕ) (o : Option ℕ) → slice_get (sizes tree) m ≡ o → LiesIn offset count o → m < length tree.memories
  lies_within offset count m None e h = absurd h
  lies_within offset count m (Some pages) e h =
      let le = slice_get_within (sizes tree) m pages e in
      let same = length-map tree.memories (λ memory. memory.pages) in
      omega (arith, le, same)

  patch_one : (o : Option MemoryState) (xs ys : List MemoryState) (patch : Patch) → slice_get xs patch.memory ≡ o → PatchFits (sizes tree) patch → AreMemories xs ys
      → AreMemories (patch_over o xs patch) (patched ys (patch_by numbers patch))
  patch_one None xs ys patch e fits h =
      let low = lies_within patch.offset (length patch.bytes) patch.memory (slice_get (sizes tree) patch.memory) refl fits.0 in
      let high = past_end xs patch.memory e in
      absurd (omega (arith, low, high, h.count))
  patch_one (Some memory) xs ys patch e fits h = record {
    count = length-set xs patch.memory (write memory patch.offset patch.bytes) ∙ h.count;
    carried = subst (λ o. Carries numbers.memory (set xs patch.memory (write memory patch.offset patch.bytes)) (patch_over o ys (patch_by numbers patch)))
        (sym (h.carried patch.memory memory e))
        (carries_set numbers.memory xs ys patch.memory memory (write memory patch.offset patch.bytes) (subst (Parts numbers.memory) (sym h.count) renames.memory_parts) e h.carried);
  }

  patch_all : (patches : List Patch) (xs ys : List MemoryState) → All (PatchFits (sizes tree)) patches → AreMemories xs ys
      → AreMemories (fold patched xs patches) (fold patched ys (map (patch_by numbers) patches))
  patch_all [] xs ys fits h = h
  patch_all (patch ∷ patches) xs ys fits h =
      patch_all patches (patched xs patch) (patched ys (patch_by numbers patch)) (All-drop (PatchFits (sizes tree)) 1 (patch ∷ patches) fits)
      (patch_one (slice_get xs patch.memory) xs ys patch refl (All-get_or (PatchFits (sizes tree)) (patch ∷ patches) 0 patch (omega arith) fits) h)

  first_stores : (function : ℕ) (start : Start) → IsStart tree function start → AreStores numbers tree (first_store tree start) (first_store there (start_by numbers start))
  first_stores function start is =
      let memories : AreMemories (fold patched (map first_memory tree.memories) start.patches) (fold patched (map first_memory there.memories) (map (patch_by numbers) start.patches)) =
      patch_all start.patches (map first_memory tree.memories) (map first_memory there.memories) is.fits.patches (record {
        count = length-map tree.memories first_memory;
        carried = carries_images numbers.memory first_memory tree.memories there.memories renames.memories;
      }) in
      record {
        memory_count = memories.count;
        global_count = length-map tree.globals (λ global. global.initial);
        memories = memories.carried;
        globals = carries_images numbers.names.global (λ global. global.initial) tree.globals there.globals renames.globals;
      }

  pub openings : (function : ℕ) (start : Start) → IsStart tree function start
      → AreConfigs numbers tree (opening tree function start) (opening there (numbers.names.function function) (start_by numbers start))
  openings function start is = record { store = first_store there (start_by numbers start); stores = first_stores function start is; same = refl }

  -- ---- runs

  pub record EndsThere (n : ℕ) (d : Config) (o : Outcome) : Type 0 where
    pub outcome : Outcome
    pub run : EndsAfter (source_step there) n d outcome
    pub alike : Alike numbers o outcome

  pub forth : (n : ℕ) (c d : Config) (o : Outcome) → AreConfigs numbers tree c d → EndsAfter (source_step tree) n c o → EndsThere n d o
  forth n c d o are (last _ _ e) =
      let step : AreSteps numbers tree (ends o) (source_step there d) = subst (λ next. AreSteps numbers tree next (source_step there d)) e (steps numbers tree there renames c d are) in
      record { outcome = step.0; run = last d step.0 step.1; alike = step.2 }
  forth n c d o are (more k _ c' _ e r) =
      let step : AreSteps numbers tree (goes c') (source_step there d) = subst (λ next. AreSteps numbers tree next (source_step there d)) e (steps numbers tree there renames c d are) in
      let rest = forth k c' step.0 o step.2 r in
      record { outcome = rest.outcome; run = more k d step.0 rest.outcome step.1 rest.run; alike = rest.alike }

  module _ (runs : IsRunnable tree) (results : List ValueType) where
    pub record EndsHere (n : ℕ) (c : Config) (p : Outcome) : Type 0 where
      pub outcome : Outcome
      pub run : EndsAfter (source_step tree) n c outcome
      pub alike : Alike numbers outcome p

    back_last : (c : Config) (p : Outcome) (next : Next Config) → source_step tree c ≡ next → IsTypedStep tree results next → AreSteps numbers tree next (ends p) → EndsHere 1 c p
    back_last c p (goes c') e typed step = absurd (subst (λ next. IsEnd next p) step.1 refl)
    back_last c p (ends o) e typed step =
        let same : step.0 ≡ p = subst (λ next. IsEnd next p) step.1 refl in
        record { outcome = o; run = last c o e; alike = subst (Alike numbers o) same step.2 }
    back_last c p stuck e typed step = absurd typed

    back_more : (k : ℕ) (c d' : Config) (p : Outcome) (next : Next Config) → source_step tree c ≡ next → IsTypedStep tree results next → AreSteps numbers tree next (goes d')
        → ((c' : Config) → IsTyped tree results c' → AreConfigs numbers tree c' d' → EndsHere k c' p) → EndsHere (suc k) c p
    back_more k c d' p (goes c') e typed step rest =
        let same : step.0 ≡ d' = subst (λ next. IsNext next d') step.1 refl in
        let run = rest c' typed (subst (AreConfigs numbers tree c') same step.2) in
        record { outcome = run.outcome; run = more k c c' run.outcome e run.run; alike = run.alike }
    back_more k c d' p (ends o) e typed step rest = absurd (subst (λ next. IsNext next d') step.1 refl)
    back_more k c d' p stuck e typed step rest = absurd typed

    pub back : (n : ℕ) (c d : Config) (p : Outcome) → IsTyped tree results c → AreConfigs numbers tree c d → EndsAfter (source_step there) n d p → EndsHere n c p
    back n c d p typed are (last _ _ e) =
        back_last c p (source_step tree c) refl (preservation tree runs results c typed)
        (subst (AreSteps numbers tree (source_step tree c)) e (steps numbers tree there renames c d are))
    back n c d p typed are (more k _ d' _ e r) =
        back_more k c d' p (source_step tree c) refl (preservation tree runs results c typed)
        (subst (AreSteps numbers tree (source_step tree c)) e (steps numbers tree there renames c d are))
        (λ c' typed are. back k c' d' p typed are r)

  -- ---- outcomes

  pub outcome_there : (function : ℕ) (start : Start) (n : ℕ) (o : Outcome) → source tree function start n o
      → (p : Outcome) × source there (numbers.names.function function) (start_by numbers start) n p × Alike numbers o p
  outcome_there function start n o s =
      let h = forth n (opening tree function start) (opening there (numbers.names.function function) (start_by numbers start)) o (openings function start s.start_fits) s.run in
      (h.outcome, record { start_fits = start_kept function start s.start_fits; run = h.run }, h.alike)

  pub outcome_here : IsRunnable tree → (function : ℕ) (start : Start) → IsStart tree function start → (n : ℕ) (p : Outcome)
      → source there (numbers.names.function function) (start_by numbers start) n p
      → (o : Outcome) × source tree function start n o × Alike numbers o p
  outcome_here runs function start is n p s =
      let h = back runs is.type.results n (opening tree function start) (opening there (numbers.names.function function) (start_by numbers start)) p
      (typed_opening tree runs function start is) (openings function start is) s.run in
      (h.outcome, record { start_fits = is; run = h.run }, h.alike)
