-- Patches that fit are written as the rules say.
use Rattle.std.proofs.Common.{◌≡◌, ℕ, ◌+◌, ◌*◌, ◌≤◌, List, [], ◌∷◌, length, map, set, Option, Some, None, slice_get, refl, sym, ap, ◌∙◌, subst, arith}
use Rattle.std.specs.Prelude.{nat_le, if◌then◌else◌}
use Rattle.std.specs.List.{All, AllZip, fold}
use Rattle.std.proofs.lemmas.Bool.{le-leb}
use Rattle.std.proofs.lemmas.List.Elements.{All-drop, All-get_or}
use Rattle.std.proofs.lemmas.Option.{get_or_from_slice_get}
use Rattle.bl_base.specs.Bytes.{write, patch_over, patched}
use Rattle.bl_base.specs.Fits.{LiesIn, PatchFits}
use Rattle.bl_base.specs.Runs.{MemoryState}
use Rattle.bl_base.specs.declared.start.Patch.{Patch}
use Rattle.bl_base.proofs.Lists.{zip_get, zip_set, zip_map, zip_images}
use Rattle.bl_bytes.proofs.OverlayLemmas.{length_write}
use Rattle.bl_wasm.specs.Linked.{IsMemory}
use Rattle.bl_wasm.specs.declared.linked.Memory.{Memory}
use Rattle.bl_reduce.specs.Outcomes.{first_memory}
use Rattle.bl_memory.specs.Spaces.{no_memory, space_at, patched_once, patched_all}

-- a memory has exactly the bytes of so many pages
abbrev Sized : ℕ → MemoryState → Type 0
Sized pages state = length state.bytes ≡ pages * 65536

module _ (sizes : List ℕ) where
  record Patched (states : List MemoryState) (patch : Patch) : Type 0 where
    same : patched_once states patch ≡ patched states patch
    sized : AllZip Sized sizes (patched states patch)

  one : (states : List MemoryState) (patch : Patch) → PatchFits sizes patch → AllZip Sized sizes states → Patched states patch
  one states patch fits h = from (slice_get sizes patch.memory) refl fits.0
    where
      from : (o : Option ℕ) → slice_get sizes patch.memory ≡ o → LiesIn patch.offset (length patch.bytes) o → Patched states patch
      from None e lies = absurd lies
      from (Some pages) e lies =
          let found = zip_get Sized sizes states patch.memory pages h e in
          let state : MemoryState = found.0 in
          let size : length state.bytes ≡ pages * 65536 = found.2 in
          let le : patch.offset + length patch.bytes ≤ length state.bytes = omega (arith, lies, size) in
          let new : MemoryState = write state patch.offset patch.bytes in
          let there : space_at patch.memory states ≡ state = get_or_from_slice_get states patch.memory state no_memory found.1 in
          let once : patched_once states patch ≡ set states patch.memory new =
          ap (λ m. if nat_le (patch.offset + length patch.bytes) (length m.bytes) then set states patch.memory (write m patch.offset patch.bytes) else states) there
          ∙ ap (λ b. if b then set states patch.memory new else states) (le-leb (patch.offset + length patch.bytes) (length state.bytes) le) in
          let ruled : patched states patch ≡ set states patch.memory new = ap (λ o. patch_over o states patch) found.1 in
          record {
            same = once ∙ sym ruled;
            sized = subst (AllZip Sized sizes) (sym ruled) (zip_set Sized sizes states patch.memory pages new h e (length_write state patch.offset patch.bytes le ∙ size));
          }

  all_patched : (patches : List Patch) (states : List MemoryState) → All (PatchFits sizes) patches → AllZip Sized sizes states → patched_all states patches ≡ fold patched states patches
  all_patched [] states fits h = refl
  all_patched (patch ∷ patches) states fits h =
      let p = one states patch (All-get_or (PatchFits sizes) (patch ∷ patches) 0 patch (omega arith) fits) h in
      ap (λ s. patched_all s patches) p.same ∙ all_patched patches (patched states patch) (All-drop (PatchFits sizes) 1 (patch ∷ patches) fits) p.sized

pub patches_are : (memories : List Memory) (patches : List Patch) → All IsMemory memories → All (PatchFits (map (λ memory. memory.pages) memories)) patches
    → patched_all (map first_memory memories) patches ≡ fold patched (map first_memory memories) patches
patches_are memories patches are fits =
    all_patched (map (λ memory. memory.pages) memories) patches (map first_memory memories) fits
    (zip_map (λ memory. memory.pages) Sized (λ memory state. length state.bytes ≡ memory.pages * 65536) (λ memory state h. h) memories (map first_memory memories)
    (zip_images IsMemory (λ memory state. length state.bytes ≡ memory.pages * 65536) first_memory (λ memory is. is.size) memories are))
