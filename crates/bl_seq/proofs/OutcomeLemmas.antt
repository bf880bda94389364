-- What is told of a machine: results and memories.
use Rattle.std.proofs.Common.{◌≡◌, ℕ, suc, ◌+◌, ◌-◌, ◌*◌, ◌<◌, ◌≤◌, List, [], ◌∷◌, ◌++◌, length, map, drop, get_or, sym, ap, subst, ◌∙◌, arith}
use Rattle.std.proofs.Math.Seq.{drop-cons}
use Rattle.std.specs.List.{All}
use Rattle.std.proofs.lemmas.List.Elements.{All-head, All-tail}
use Rattle.std.proofs.lemmas.List.{append-nil, append_assoc, at_drop_all, map-append}
use Rattle.bl_base.specs.Runs.{MemoryState, memory_of}
use Rattle.bl_base.specs.declared.run.Pages.{Pages}
use Rattle.bl_program.specs.Steps.{states_from, values_from}
use Rattle.bl_program.specs.declared.definitions.MemoryDef.{MemoryDef}
use Rattle.bl_seq.specs.FinalMemories.{IsWhole, pages_at}

-- ---- results

module _ (registers : ℕ → ℕ → ℕ) (depth : ℕ) where
  -- one more value of those in a row
  pub values_next : (from i n v : ℕ) (values : List ℕ) → i < n → v ≡ registers depth (from + i)
      → (values ++ v ∷ []) ++ values_from registers depth (from + (i + 1)) (n - (i + 1)) ≡ values ++ values_from registers depth (from + i) (n - i)
  values_next from i n v values lt is =
      let place : from + (i + 1) ≡ suc (from + i) = omega arith in
      let count : n - i ≡ suc (n - (i + 1)) = omega arith in
      ap (λ p. (values ++ v ∷ []) ++ values_from registers depth p (n - (i + 1))) place
      ∙ append_assoc values (v ∷ []) (values_from registers depth (suc (from + i)) (n - (i + 1)))
      ∙ ap (λ w. values ++ (w ∷ values_from registers depth (suc (from + i)) (n - (i + 1)))) is
      ∙ ap (λ k. values ++ values_from registers depth (from + i) k) (sym count)

  -- all values of those in a row
  pub values_all : (from i n place count : ℕ) (values : List ℕ) → n ≤ i → from ≡ place → n ≡ count
      → values ++ values_from registers depth (from + i) (n - i) ≡ values_from registers depth from n → values ≡ values_from registers depth place count
  values_all from i n place count values le p c e =
      let none : n - i ≡ 0 = omega arith in
      sym (append-nil values) ∙ ap (λ k. values ++ values_from registers depth (from + i) k) (sym none) ∙ e
      ∙ ap (λ x. values_from registers depth x n) p ∙ ap (λ k. values_from registers depth place k) c

-- ---- memories

module _ (registers : ℕ → ℕ → ℕ) (space : List ℕ) (memories : List MemoryDef) where
  -- one more memory of those in a row
  pub states_next : (old new : List Pages) (x : Pages) (size from i : ℕ) (memory d : MemoryDef) → i < length memories → memory ≡ get_or memories i d
      → new ≡ old ++ x ∷ []
      → memory_of x ≡ pages_at space from (registers 0 (size + i))
      → map memory_of new ++ states_from registers space (size + (i + 1)) (from + memory.reserve * 65536) (drop (i + 1) memories)
      ≡ map memory_of old ++ states_from registers space (size + i) from (drop i memories)
  states_next old new x size from i memory d lt is more state =
      let place : size + (i + 1) ≡ suc (size + i) = omega arith in
      let next : i + 1 ≡ suc i = omega arith in
      let rest = states_from registers space (size + (i + 1)) (from + memory.reserve * 65536) (drop (i + 1) memories) in
      let one : MemoryState = pages_at space from (registers 0 (size + i)) in
      ap (λ l. map memory_of l ++ rest) more
      ∙ ap (λ l. l ++ rest) (map-append memory_of old (x ∷ []))
      ∙ append_assoc (map memory_of old) (memory_of x ∷ []) rest
      ∙ ap (λ s. map memory_of old ++ (s ∷ rest)) state
      ∙ ap (λ p. map memory_of old ++ (one ∷ states_from registers space p (from + memory.reserve * 65536) (drop (i + 1) memories))) place
      ∙ ap (λ (m : MemoryDef). map memory_of old ++ (one ∷ states_from registers space (suc (size + i)) (from + m.reserve * 65536) (drop (i + 1) memories))) is
      ∙ ap (λ j. map memory_of old ++ (one ∷ states_from registers space (suc (size + i)) (from + (get_or memories i d).reserve * 65536) (drop j memories))) next
      ∙ ap (λ l. map memory_of old ++ states_from registers space (size + i) from l) (sym (drop-cons memories i d lt))

  -- all memories of those in a row
  pub states_all : (list : List Pages) (size from i : ℕ) (all : List MemoryState) → length memories ≤ i
      → map memory_of list ++ states_from registers space (size + i) from (drop i memories) ≡ all → map memory_of list ≡ all
  states_all list size from i all le e =
      sym (append-nil (map memory_of list))
      ∙ sym (at_drop_all (λ l. map memory_of list ++ states_from registers space (size + i) from l) memories i le) ∙ e

  -- where all memories from one on are whole, it is whole and those behind it are
  pub whole_next : (size from i : ℕ) (memory d : MemoryDef) → i < length memories → memory ≡ get_or memories i d
      → All IsWhole (states_from registers space (size + i) from (drop i memories))
      → IsWhole (pages_at space from (registers 0 (size + i))) × All IsWhole (states_from registers space (size + (i + 1)) (from + memory.reserve * 65536) (drop (i + 1) memories))
  whole_next size from i memory d lt is all =
      let place : suc (size + i) ≡ size + (i + 1) = omega arith in
      let next : suc i ≡ i + 1 = omega arith in
      let one : MemoryState = pages_at space from (registers 0 (size + i)) in
      let others : List MemoryState = states_from registers space (suc (size + i)) (from + (get_or memories i d).reserve * 65536) (drop (suc i) memories) in
      let here : All IsWhole (one ∷ others) = subst (λ l. All IsWhole (states_from registers space (size + i) from l)) (drop-cons memories i d lt) all in (
        All-head IsWhole one others here,
        subst (λ j. All IsWhole (states_from registers space (size + (i + 1)) (from + memory.reserve * 65536) (drop j memories))) next
            (subst (λ p. All IsWhole (states_from registers space p (from + memory.reserve * 65536) (drop (suc i) memories))) place
            (subst (λ (m : MemoryDef). All IsWhole (states_from registers space (suc (size + i)) (from + m.reserve * 65536) (drop (suc i) memories))) (sym is)
            (All-tail IsWhole one others here))),
      )
