-- The memories that a plain state stands for.
use Rattle.std.proofs.Common.{◌≡◌, ℕ, suc, ◌+◌, ◌-◌, ◌*◌, List, [], ◌∷◌, ◌++◌, length, take, drop, replicate, Some, slice_get, refl, sym, ap, ap₂, ◌∙◌, arith, length-append, append_assoc}
use Rattle.std.specs.List.{AllZip}
use Rattle.std.proofs.lemmas.List.{take_at, drop_at}
use Rattle.bl_base.specs.Runs.{MemoryState}
use Rattle.bl_wasm.specs.declared.linked.Memory.{Memory}
use Rattle.bl_reduce.specs.Configurations.{Store}
use Rattle.bl_reduce.specs.TypedConfigurations.{IsMemoryState}
use Rattle.bl_program.specs.Steps.{Registers, Plain}
use Rattle.bl_lower.proofs.Machine.{Program, states_from, states, padded, space_of}
use Rattle.bl_lower.proofs.MatchStates.{IsStore}
use Rattle.bl_lower.proofs.MemorySpace.{padded_length}

same_state : (a : MemoryState) (pages : ℕ) (bytes : List ℕ) → pages ≡ a.pages → bytes ≡ a.bytes → record { pages = pages; bytes = bytes } ≡ a
same_state a pages bytes e f = ap₂ (λ p b. record { pages = p; bytes = b }) e f

made : (r : Registers) (space : List ℕ) (memories : List Memory) (those : List MemoryState) (size from : ℕ) (before : List ℕ) → length before ≡ from → AllZip IsMemoryState memories those
    → ((i : ℕ) (state : MemoryState) → slice_get those i ≡ Some state → r 0 (size + i) ≡ state.pages) → space ≡ before ++ space_of memories those → states_from r space size from memories ≡ those
made r space [] [] size from before long h sizes e = refl
made r space [] (state ∷ those) size from before long h sizes e = absurd h
made r space (memory ∷ memories) [] size from before long h sizes e = absurd h
made r space (memory ∷ memories) (state ∷ those) size from before long h sizes e =
    ap₂ (λ a b. a ∷ b) (same_state state (r 0 size) (take (r 0 size * 65536) (drop from space)) pages bytes)
    (made r space memories those (suc size) (from + memory.reserve * 65536) (before ++ padded memory state) (omega (arith, length-append before (padded memory state), padded_length memory state h.0, long)) h.1
    (λ i other got. let next : suc size + i ≡ size + suc i = omega arith in ap (r 0) next ∙ sizes (suc i) other got) (e ∙ sym (append_assoc before (padded memory state) (space_of memories those))))
  where
    pages : r 0 size ≡ state.pages
    pages = let zero_is : size ≡ size + 0 = omega arith in ap (r 0) zero_is ∙ sizes 0 state refl

    bytes : take (r 0 size * 65536) (drop from space) ≡ state.bytes
    bytes =
        ap (λ s. take (r 0 size * 65536) (drop from s)) e ∙ ap (take (r 0 size * 65536)) (drop_at before (padded memory state ++ space_of memories those) from long ∙ append_assoc state.bytes (replicate (memory.reserve * 65536 - length state.bytes) 0) (space_of memories those))
        ∙ take_at state.bytes (replicate (memory.reserve * 65536 - length state.bytes) 0 ++ space_of memories those) (r 0 size * 65536) (h.0.size ∙ ap (λ n. n * 65536) (sym pages))

pub states_are : (program : Program) (s : Plain) (store : Store) → IsStore program s.registers s.space store → states program s ≡ store.memories
states_are program s store h = made s.registers s.space program.memories store.memories program.sizes 0 [] refl h.within h.sizes h.space_is
