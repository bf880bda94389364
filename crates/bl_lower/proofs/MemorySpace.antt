-- Reading, writing and growing a memory, in the space of all of them.
use Rattle.std.proofs.Common.{◌≡◌, ℕ, zero, suc, ◌+◌, ◌-◌, ◌*◌, ◌≤◌, List, [], ◌∷◌, ◌++◌, length, take, drop, set, replicate, Some, slice_get, refl, sym, ap, ap₂, ◌∙◌, subst, arith, append_assoc, length-append, length-drop}
use Rattle.std.specs.List.{AllZip}
use Rattle.std.proofs.lemmas.List.{length-replicate, length-take-le, replicate-append-replicate, take-append-le, drop-append-le}
use Rattle.std.proofs.Math.Seq.{take-append-add, drop-append-add}
use Rattle.std.proofs.lemmas.Option.{none-some, same_Some}
use Rattle.bl_base.specs.Runs.{MemoryState}
use Rattle.bl_wasm.specs.declared.linked.Memory.{Memory}
use Rattle.bl_reduce.specs.Memory.{write, grow}
use Rattle.bl_reduce.specs.TypedConfigurations.{IsMemoryState}
use Rattle.bl_lower.proofs.Machine.{base, padded, space_of}

-- no memory is larger than its reserve
abbrev pub AreWithin : List Memory → List MemoryState → Type 0
AreWithin memories states = AllZip IsMemoryState memories states

pub padded_length : (memory : Memory) (state : MemoryState) → IsMemoryState memory state → length (padded memory state) ≡ memory.reserve * 65536
padded_length memory state h =
    omega (arith, length-append state.bytes (replicate (memory.reserve * 65536 - length state.bytes) 0), length-replicate {A = ℕ} (memory.reserve * 65536 - length state.bytes) 0, h.size, h.most)

-- a memory's bytes among the others
pub record Segment (memories : List Memory) (states : List MemoryState) (index : ℕ) (state : MemoryState) : Type 0 where
  pub memory : Memory
  pub found : slice_get memories index ≡ Some memory
  pub before : List ℕ
  pub behind : List ℕ
  pub begins : length before ≡ base memories index
  pub is : (other : MemoryState) → space_of memories (set states index other) ≡ before ++ (padded memory other ++ behind)
  pub now : space_of memories states ≡ before ++ (padded memory state ++ behind)
  pub within : IsMemoryState memory state

pub segment : (memories : List Memory) (states : List MemoryState) (index : ℕ) (state : MemoryState) → AreWithin memories states → slice_get states index ≡ Some state → Segment memories states index state
segment [] [] index state h e = absurd (none-some state e)
segment [] (s ∷ states) index state h e = absurd h
segment (memory ∷ memories) [] index state h e = absurd h
segment (memory ∷ memories) (s ∷ states) zero state h e = record {
  memory = memory;
  found = refl;
  before = [];
  behind = space_of memories states;
  begins = refl;
  is = λ other. refl;
  now = ap (λ s. padded memory s ++ space_of memories states) (same_Some s state e);
  within = subst (IsMemoryState memory) (same_Some s state e) h.0;
}
segment (memory ∷ memories) (s ∷ states) (suc index) state h e =
    let g = segment memories states index state h.1 e in
    record {
      memory = g.memory;
      found = g.found;
      before = padded memory s ++ g.before;
      behind = g.behind;
      begins = omega (arith, length-append (padded memory s) g.before, padded_length memory s h.0, g.begins);
      is = λ other. ap (λ l. padded memory s ++ l) (g.is other) ∙ sym (append_assoc (padded memory s) g.before (padded g.memory other ++ g.behind));
      now = ap (λ l. padded memory s ++ l) g.now ∙ sym (append_assoc (padded memory s) g.before (padded g.memory state ++ g.behind));
      within = g.within;
    }

module _ (memories : List Memory) (states : List MemoryState) (index : ℕ) (state : MemoryState) (g : Segment memories states index state) where
  abbrev zeros : ℕ → List ℕ
  zeros size = replicate (g.memory.reserve * 65536 - size) 0

  -- from a place of the memory on
  from : (at : ℕ) → at ≤ length state.bytes → drop (base memories index + at) (space_of memories states) ≡ drop at state.bytes ++ (zeros (length state.bytes) ++ g.behind)
  from at le =
      ap (λ l. drop (base memories index + at) l) g.now ∙ ap (λ n. drop (n + at) (g.before ++ (padded g.memory state ++ g.behind))) (sym g.begins)
      ∙ drop-append-add g.before (padded g.memory state ++ g.behind) at ∙ ap (drop at) (append_assoc state.bytes (zeros (length state.bytes)) g.behind)
      ∙ drop-append-le at state.bytes (zeros (length state.bytes) ++ g.behind) le

  -- what is read in the memory is read in the space
  pub reads_same : (at width : ℕ) → at + width ≤ length state.bytes → take width (drop (base memories index + at) (space_of memories states)) ≡ take width (drop at state.bytes)
  reads_same at width le =
      ap (take width) (from at (omega (arith, le))) ∙ take-append-le width (drop at state.bytes) (zeros (length state.bytes) ++ g.behind) (omega (arith, length-drop at state.bytes, le))

  -- what is written to the memory is written to the space
  pub writes_same : (at : ℕ) (new : List ℕ) → at + length new ≤ length state.bytes
      → take (base memories index + at) (space_of memories states) ++ (new ++ drop (base memories index + at + length new) (space_of memories states)) ≡ space_of memories (set states index (write state at new))
  writes_same at new le =
      ap₂ (λ a b. a ++ (new ++ b)) front back
      ∙ append_assoc g.before (take at state.bytes) (new ++ (drop (at + length new) state.bytes ++ (zeros (length state.bytes) ++ g.behind)))
      ∙ ap (λ l. g.before ++ l) (sym (inside (take at state.bytes) new (drop (at + length new) state.bytes) (zeros (length state.bytes)) g.behind))
      ∙ ap (λ n. g.before ++ ((write state at new).bytes ++ zeros n ++ g.behind)) (sym same_length) ∙ sym (g.is (write state at new))
    where
      front : take (base memories index + at) (space_of memories states) ≡ g.before ++ take at state.bytes
      front =
          ap (λ l. take (base memories index + at) l) g.now ∙ ap (λ n. take (n + at) (g.before ++ (padded g.memory state ++ g.behind))) (sym g.begins)
          ∙ take-append-add g.before (padded g.memory state ++ g.behind) at
          ∙ ap (λ l. g.before ++ l) (ap (take at) (append_assoc state.bytes (zeros (length state.bytes)) g.behind) ∙ take-append-le at state.bytes (zeros (length state.bytes) ++ g.behind) (omega (arith, le)))

      back : drop (base memories index + at + length new) (space_of memories states) ≡ drop (at + length new) state.bytes ++ (zeros (length state.bytes) ++ g.behind)
      back = let e : base memories index + at + length new ≡ base memories index + (at + length new) = omega arith in ap (λ n. drop n (space_of memories states)) e ∙ from (at + length new) le

      inside : (a b c d e : List ℕ) → ((a ++ b ++ c) ++ d) ++ e ≡ a ++ (b ++ (c ++ (d ++ e)))
      inside a b c d e = append_assoc (a ++ b ++ c) d e ∙ append_assoc (a ++ b) c (d ++ e) ∙ append_assoc a b (c ++ (d ++ e))

      same_length : length (write state at new).bytes ≡ length state.bytes
      same_length = omega (arith, length-append (take at state.bytes ++ new) (drop (at + length new) state.bytes), length-append (take at state.bytes) new, length-take-le at state.bytes (omega (arith, le)), length-drop (at + length new) state.bytes, le)

  -- growing changes no byte of the space
  pub grows_same : (delta : ℕ) → state.pages + delta ≤ g.memory.reserve → space_of memories (set states index (grow state delta)) ≡ space_of memories states
  grows_same delta le = g.is (grow state delta) ∙ ap (λ l. g.before ++ (l ++ g.behind)) same ∙ sym g.now
    where
      split : g.memory.reserve * 65536 - length state.bytes ≡ delta * 65536 + (g.memory.reserve * 65536 - length (state.bytes ++ replicate (delta * 65536) 0))
      split = omega (arith, length-append state.bytes (replicate (delta * 65536) 0), length-replicate {A = ℕ} (delta * 65536) 0, g.within.size, le)

      same : padded g.memory (grow state delta) ≡ padded g.memory state
      same =
          append_assoc state.bytes (replicate (delta * 65536) 0) (replicate (g.memory.reserve * 65536 - length (state.bytes ++ replicate (delta * 65536) 0)) 0)
          ∙ ap (λ l. state.bytes ++ l) (replicate-append-replicate {A = ℕ} (delta * 65536) (g.memory.reserve * 65536 - length (state.bytes ++ replicate (delta * 65536) 0)) 0 ∙ ap (λ n. replicate n 0) (sym split))
