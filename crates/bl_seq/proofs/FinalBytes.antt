-- Where a plain run ends, each memory has all bytes of its pages.
use Rattle.std.proofs.Common.{◌≡◌, ℕ, zero, suc, ◌+◌, ◌-◌, ◌*◌, ◌≤◌, ◌%◌, ◌^◌, Bool, true, false, List, [], ◌∷◌, length, map, drop, replicate, Option, Some, None, slice_get, refl, sym, ap, ◌∙◌, subst, arith}
use Rattle.std.specs.Prelude.{nat_lt, ◌==◌, if◌then◌else◌}
use Rattle.std.specs.List.{All, fold}
use Rattle.std.proofs.lemmas.List.{length-append, length-drop, length-replicate, length-take-le}
use Rattle.std.proofs.lemmas.List.Elements.{All-cons, All-head, All-tail}
use Rattle.bl_base.specs.Bytes.{patched}
use Rattle.bl_base.specs.Fits.{PatchFits}
use Rattle.bl_base.specs.Quantity.{most_calls}
use Rattle.bl_base.specs.Runs.{MemoryState, Outcome, Next, goes, ends, stuck, trapped, StepsTo, EndsAfter, last, more}
use Rattle.bl_base.specs.declared.start.Patch.{Patch}
use Rattle.bl_base.specs.declared.start.Start.{Start}
use Rattle.bl_base.specs.declared.trap.Trap.TheVariants as trap_kind
use Rattle.bl_base.proofs.RunLemmas.{IsEnd, IsNext}
use Rattle.bl_program.specs.Layout.{entry_of, size_of, command_at, sum_before}
use Rattle.bl_program.specs.Outcomes.{IsStart, first_memories, first_memory, opening, padded, space_of}
use Rattle.bl_program.specs.Programs.{IsProgram}
use Rattle.bl_program.specs.Rules.{IsMemory, IsWellFormed}
use Rattle.bl_program.specs.Steps.{Plain, Registers, depth, effective, perform, plain_step, ret, states, states_from, to, value_of}
use Rattle.bl_program.specs.declared.command.Command.{Command}
use Rattle.bl_program.specs.declared.command.Command.TheVariants.{Set, Load, Store, Test, Call, Ret, Trap}
use Rattle.bl_program.specs.declared.definitions.MemoryDef.{MemoryDef}
use Rattle.bl_program.specs.declared.definitions.ProgramParts.{ProgramParts as Program}
use Rattle.bl_seq.specs.FinalMemories.{EndsWhole, IsWhole, memories_at, pages_at}
use Rattle.bl_seq.specs.Machines.{RunsTo}
use Rattle.bl_seq.specs.InitialMemories.{AreSized}
use Rattle.bl_seq.specs.OwnMemory.{IsReached}
use Rattle.bl_seq.proofs.OwnSizes.{sized, whole}
use Rattle.bl_bytes.proofs.OverlayLemmas.{overlay_length}
use Rattle.bl_seq.proofs.InitialMachine.{lies_inside, sized_first, sized_patched}

module _ (program : Program) where
  -- ---- the memories at an end are those of the state before it

  called_ends : (s t : Plain) (b : Bool) (o : Outcome) → IsEnd (if b then goes t else ends (trapped trap_kind.StackExhausted (states program s))) o → memories_at o ≡ states program s
  called_ends s t true o h = absurd h
  called_ends s t false o h = ap memories_at (sym h)

  tested_ends : (s : Plain) (one other : ℕ) (b : Bool) (o : Outcome) → IsEnd (if b then to other s else to one s) o → ⊥
  tested_ends s one other true o h = h
  tested_ends s one other false o h = h

  ret_ends : (chain : List ℕ) (s : Plain) (o : Outcome) → IsEnd (ret program chain s) o → memories_at o ≡ states program s
  ret_ends [] s o h = ap memories_at (sym h)
  ret_ends (back ∷ chain) s o h = absurd h

  ends_by : (s : Plain) (command : Option Command) (o : Outcome) → IsEnd (perform program command s) o → memories_at o ≡ states program s
  ends_by s None o h = absurd h
  ends_by s (Some (Test cond one other)) o h = absurd (tested_ends s one.0 other.0 (value_of program cond s % 2 ^ 32 == 0) o h)
  ends_by s (Some (Call callee)) o h =
      called_ends s (record s { position = entry_of program callee; chain = suc s.position ∷ s.chain }) (nat_lt (depth s) most_calls) o h
  ends_by s (Some Ret) o h = ret_ends s.chain s o h
  ends_by s (Some (Trap kind)) o h = ap memories_at (sym h)
  ends_by s (Some _) o h = absurd h

  -- ---- a step keeps the number of bytes

  called_keeps : (s t u : Plain) (deep : Outcome) (b : Bool) → u.space ≡ s.space → IsNext (if b then goes u else ends deep) t → length t.space ≡ length s.space
  called_keeps s t u deep true e h = ap (λ (x : Plain). length x.space) (sym h) ∙ ap length e
  called_keeps s t u deep false e h = absurd h

  tested_keeps : (s t : Plain) (one other : ℕ) (b : Bool) → IsNext (if b then to other s else to one s) t → length t.space ≡ length s.space
  tested_keeps s t one other true h = ap (λ (x : Plain). length x.space) (sym h)
  tested_keeps s t one other false h = ap (λ (x : Plain). length x.space) (sym h)

  ret_keeps : (chain : List ℕ) (s t : Plain) → IsNext (ret program chain s) t → length t.space ≡ length s.space
  ret_keeps [] s t h = absurd h
  ret_keeps (back ∷ chain) s t h = ap (λ (x : Plain). length x.space) (sym h)

  kept_by : (s t : Plain) (command : Option Command) → IsNext (perform program command s) t → length t.space ≡ length s.space
  kept_by s t None h = absurd h
  kept_by s t (Some (Set m op x a b c)) h = ap (λ (x : Plain). length x.space) (sym h)
  kept_by s t (Some (Load m kind k x offset a)) h = ap (λ (x : Plain). length x.space) (sym h)
  kept_by s t (Some (Store kind k offset a b)) h = ap (λ (x : Plain). length x.space) (sym h) ∙ overlay_length (effective program k offset (value_of program a s)) _ s.space
  kept_by s t (Some (Test cond one other)) h = tested_keeps s t one.0 other.0 (value_of program cond s % 2 ^ 32 == 0) h
  kept_by s t (Some (Call callee)) h =
      called_keeps s t (record s { position = entry_of program callee; chain = suc s.position ∷ s.chain }) (trapped trap_kind.StackExhausted (states program s)) (nat_lt (depth s) most_calls) refl h
  kept_by s t (Some Ret) h = ret_keeps s.chain s t h
  kept_by s t (Some (Trap kind)) h = absurd h
  kept_by s t (Some _) h = ap (λ (x : Plain). length x.space) (sym h)

  pub comes_keeps : (n : ℕ) (c d : Plain) → StepsTo (plain_step program) n c d → length d.space ≡ length c.space
  comes_keeps zero c d h = ap (λ (x : Plain). length x.space) (sym h)
  comes_keeps (suc n) c d h = comes_keeps n h.0 d h.2 ∙ kept_by c h.0 (command_at program c.position) (subst (λ x. IsNext x h.0) (sym h.1) refl)

  -- the state before an end
  end_of : (n : ℕ) (c : Plain) (o : Outcome) → EndsAfter (plain_step program) n c o → (k : ℕ) × (s : Plain) × StepsTo (plain_step program) k c s × (plain_step program s ≡ ends o)
  end_of n c o (last _ _ e) = (0, c, refl, e)
  end_of n c o (more k _ d _ e r) = let rest = end_of k d o r in (suc rest.0, rest.1, (d, e, rest.2), rest.3)

-- ---- the number of bytes at the start

pub sized_all : (memories : List MemoryDef) (patches : List Patch) (states : List MemoryState) → AreSized memories states → All (PatchFits (map (λ memory. memory.pages) memories)) patches
    → AreSized memories (fold patched states patches)
sized_all memories [] states sized fits = sized
sized_all memories (patch ∷ patches) states sized fits =
    sized_all memories patches (patched states patch)
    (sized_patched memories states patch sized (lies_inside memories states patch sized (All-head (PatchFits (map (λ memory. memory.pages) memories)) patch patches fits)))
    (All-tail (PatchFits (map (λ memory. memory.pages) memories)) patch patches fits)

pub padded_length : (memory : MemoryDef) (state : MemoryState) → length state.bytes ≡ memory.pages * 65536 → memory.pages ≤ memory.reserve → length (padded memory state) ≡ memory.reserve * 65536
padded_length memory state len le =
    length-append state.bytes (replicate (memory.reserve * 65536 - length state.bytes) 0)
    ∙ ap (λ k. length state.bytes + k) (length-replicate (memory.reserve * 65536 - length state.bytes) 0) ∙ omega arith

-- the bytes of memories from one on
abbrev pub room : List MemoryDef → ℕ
room memories = sum_before (λ (m : MemoryDef). m.reserve * 65536) memories (length memories)

space_length : (memories : List MemoryDef) (states : List MemoryState) → AreSized memories states → All IsMemory memories → length (space_of memories states) ≡ room memories
space_length [] [] sized rules = refl
space_length [] (state ∷ states) sized rules = absurd sized
space_length (memory ∷ memories) [] sized rules = absurd sized
space_length (memory ∷ memories) (state ∷ states) sized rules =
    length-append (padded memory state) (space_of memories states)
    ∙ (λ i. padded_length memory state sized.0.len (All-head IsMemory memory memories rules).pages i + space_length memories states sized.1 (All-tail IsMemory memory memories rules) i)

-- ---- memories with room for their pages are whole

whole_states : (registers : Registers) (space : List ℕ) (size from : ℕ) (memories : List MemoryDef)
    → ((k : ℕ) (d : MemoryDef) → slice_get memories k ≡ Some d → registers 0 (size + k) ≤ d.reserve) → All IsMemory memories → from + room memories ≤ length space
    → All IsWhole (states_from registers space size from memories)
whole_states registers space size from [] sizes rules le = λ k d lt. absurd (omega arith)
whole_states registers space size from (memory ∷ memories) sizes rules le =
    All-cons IsWhole (pages_at space from (registers 0 size)) (states_from registers space (suc size) (from + memory.reserve * 65536) memories)
    (record { len = length-take-le (registers 0 size * 65536) (drop from space) (omega (arith, length-drop from space, fits)); few = omega (arith, fits, few) })
    (whole_states registers space (suc size) (from + memory.reserve * 65536) memories
    (λ k d e. let place : size + suc k ≡ suc size + k = omega arith in subst (λ x. registers 0 x ≤ d.reserve) place (sizes (suc k) d e))
    (All-tail IsMemory memory memories rules) (omega arith))
  where
    here : size + 0 ≡ size
    here = omega arith

    fits : registers 0 size ≤ memory.reserve
    fits = subst (λ x. registers 0 x ≤ memory.reserve) here (sizes 0 memory refl)

    few : memory.reserve ≤ 256
    few = (All-head IsMemory memory memories rules).reserve

-- ---- the end of a run

module _ (program : Program) (facts : IsProgram program) (rules : IsWellFormed program) (function : ℕ) (start : Start) (fits : IsStart program function start) where
  -- wherever the run is, the space has all bytes of the memories
  pub space_long : (n : ℕ) (s : Plain) → StepsTo (plain_step program) n (opening program function start) s → length s.space ≡ room program.memories
  space_long n s comes =
      comes_keeps program n (opening program function start) s comes
      ∙ space_length program.memories (first_memories program start)
      (sized_all program.memories start.patches (map first_memory program.memories) (sized_first program.memories) fits.fits.patches) rules.rule1.memories

  end_whole : (n : ℕ) (o : Outcome) → EndsAfter (plain_step program) n (opening program function start) o → All IsWhole (memories_at o)
  end_whole n o run =
      let ended = end_of program n (opening program function start) o run in
      let s = ended.1 in
      let reached : IsReached program s = record { facts = facts; rules = rules; function = function; start = start; start_fits = fits; steps = ended.0; comes = ended.2 } in
      let sizes = sized program facts rules s (whole program facts rules s reached) in
      let long = space_long ended.0 s ended.2 in
      subst (All IsWhole) (sym (ends_by program s (command_at program s.position) o (subst (λ x. IsEnd x o) (sym ended.3) refl)))
      (whole_states s.registers s.space (size_of program 0) 0 program.memories
      (λ memory d e. let place : size_of program memory ≡ size_of program 0 + memory = omega arith in subst (λ x. s.registers 0 x ≤ d.reserve) place (sizes memory d e))
      rules.rule1.memories (omega arith))

  pub ends_whole : (steps : ℕ) (next : Next Plain) → RunsTo program (opening program function start) steps next → EndsWhole next
  ends_whole steps (goes s) leads = tt
  ends_whole steps (ends o) leads = end_whole leads.0 o leads.1
  ends_whole steps stuck leads = tt
